pub mod Forest
pub mod Faults
pub mod Nested
pub mod Told
pub mod Bad
pub mod Children
