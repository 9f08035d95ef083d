pub mod Naming
pub mod Laying
