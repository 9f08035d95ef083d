pub mod Characters
pub mod Letters
