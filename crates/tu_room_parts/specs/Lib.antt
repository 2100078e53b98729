pub mod Capped
pub mod Counts
pub mod Rows
