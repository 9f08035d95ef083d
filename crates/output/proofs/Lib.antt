pub mod Stores
pub mod Writing
pub mod Recording
pub mod Loops
pub mod Placing
pub mod Held
