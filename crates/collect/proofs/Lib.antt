pub mod Meeting
pub mod Finishing
pub mod Siblings
pub mod Starting
