pub mod Short
pub mod Scanning
pub mod Verdict
pub mod Long
pub mod Ending
