pub mod FirstCharacter
pub mod Pieces
pub mod Checking
pub mod Telling
pub mod Meaning
pub mod Short
