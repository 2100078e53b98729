pub mod Adding
pub mod Low
pub mod StatementLow
pub mod Rows
pub mod StatementRows
