pub mod Lengths
pub mod Low
pub mod Sums
pub mod Rows
pub mod Fusion
pub mod Known
