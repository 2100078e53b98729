pub mod Beside
pub mod Exact
pub mod Growing
pub mod Orders
pub mod Prefixes
mod Rows
