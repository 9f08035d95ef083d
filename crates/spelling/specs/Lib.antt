pub mod Spelling
pub mod Hash
