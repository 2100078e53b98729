pub mod Expressions
pub mod Ranges
pub mod Specs
pub mod Starts
pub mod Declarations
