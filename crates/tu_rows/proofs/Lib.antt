-- of this crate alone
mod Ending
