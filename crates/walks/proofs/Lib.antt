pub mod Copying
pub mod Quiet
pub mod Readying
