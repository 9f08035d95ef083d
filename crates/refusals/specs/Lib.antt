pub mod Given
pub mod Standing
pub mod Hits
pub mod Refused
