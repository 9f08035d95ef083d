pub mod Search
pub mod Filed
pub mod Along
