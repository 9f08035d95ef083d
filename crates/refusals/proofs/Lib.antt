pub mod Stands
pub mod Values
pub mod Giving
pub mod Turning
