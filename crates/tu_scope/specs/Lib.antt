pub mod Statements
pub mod Scoped
