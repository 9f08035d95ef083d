pub mod Words
pub mod Bytes
pub mod Utf8
pub mod First
pub mod Names
pub mod Laid
pub mod Answered
