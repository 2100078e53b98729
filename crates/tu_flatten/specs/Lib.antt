pub mod Statements
pub mod OneLine
