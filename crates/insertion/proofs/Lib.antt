pub mod Links
pub mod Declaring
pub mod Tops
