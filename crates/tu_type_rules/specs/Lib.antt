pub mod Operators
pub mod Arguments
pub mod Functions
pub mod Paths
