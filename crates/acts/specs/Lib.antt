pub mod View
pub mod Deciding
