pub mod Ranged
pub mod Frames
pub mod Staying
pub mod Placing
pub mod Taking
