pub mod Laying
pub mod Sizing
pub mod Answering
pub mod Names
