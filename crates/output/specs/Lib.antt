pub mod Output
pub mod Held
