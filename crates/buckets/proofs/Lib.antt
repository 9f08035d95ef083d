pub mod Searches
pub mod Filing
pub mod Finding
pub mod Walking
