pub mod Numbers
pub mod Slotted
pub mod Kinded
