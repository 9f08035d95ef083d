pub mod Answering
pub mod Owning
pub mod Small
pub mod Callers
