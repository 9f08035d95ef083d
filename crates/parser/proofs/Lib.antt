pub mod Storing
pub mod Reading
pub mod Sheets
pub mod Back
