-- for the crates above
pub mod Beginnings
pub mod Tokens
pub mod Steps
pub mod Choices
pub mod Lists
-- of this crate alone
mod Operators
