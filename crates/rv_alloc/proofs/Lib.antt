-- of this crate alone
mod Alike
mod Whole
mod Slotting
mod Owners
mod Zips
mod Room
mod Rows
