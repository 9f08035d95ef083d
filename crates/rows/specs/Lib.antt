pub mod Refusals
pub mod Sound
pub mod Limits
