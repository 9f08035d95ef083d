pub mod Parse
pub mod Sheet
