pub mod Kinds
pub mod Grammar
pub mod Masks
pub mod Codes
