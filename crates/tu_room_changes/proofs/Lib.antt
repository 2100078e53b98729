pub mod Appending
pub mod Grown
pub mod Rows
pub mod StatementRows
pub mod Counted
