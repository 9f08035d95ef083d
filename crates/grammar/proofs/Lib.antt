pub mod Masks
pub mod Places
pub mod Listed
pub mod Placed
