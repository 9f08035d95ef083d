pub mod Headers
pub mod Fields
