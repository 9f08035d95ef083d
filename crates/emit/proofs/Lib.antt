pub mod Lists
pub mod Dressing
pub mod Starting
pub mod Topped
