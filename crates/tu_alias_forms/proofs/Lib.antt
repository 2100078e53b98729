pub mod RowNumbers
pub mod Overlaps
pub mod Fits
pub mod Words
pub mod Expressions
pub mod Statements
