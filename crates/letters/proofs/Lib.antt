pub mod Range
pub mod Casing
