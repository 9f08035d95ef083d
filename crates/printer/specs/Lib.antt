pub mod Print
