-- of this crate alone
mod Rows
