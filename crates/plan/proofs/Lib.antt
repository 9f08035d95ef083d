pub mod Leaving
pub mod Frames
pub mod Staying
pub mod Acted
pub mod Placing
pub mod Taking
