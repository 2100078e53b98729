pub mod Shortened
pub mod Variables
