-- for the crates above
pub mod Words
pub mod States
pub mod Values
pub mod Forms
pub mod Conditions
pub mod Tokens
pub mod Fits
pub mod Regions
pub mod Operations
pub mod Makes
pub mod Operators
pub mod Operands
-- of this crate alone
mod Pieces
mod Entries
mod Digits
mod Compares
mod Adds
