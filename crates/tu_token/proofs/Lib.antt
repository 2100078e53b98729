-- for the crates above
pub mod Unique
pub mod Decides
pub mod Programs
pub mod Numbers
-- of this crate alone
mod Rows
mod Reprinted
mod Entries
