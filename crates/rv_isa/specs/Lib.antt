pub mod Tables
pub mod Encoding
pub mod Arithmetic
pub mod Memory
pub mod Step
pub mod Fixed
