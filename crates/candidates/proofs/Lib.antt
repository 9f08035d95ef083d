pub mod Laws
pub mod Writing
