pub mod Bindings
pub mod Bases
pub mod Refusals
