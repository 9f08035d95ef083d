pub mod Answer
pub mod Converting
