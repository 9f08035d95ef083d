pub mod Entering
pub mod Branches
pub mod Slotted
