pub mod Formed
pub mod Planning
pub mod Written
pub mod Unchanged
