-- of this crate alone
mod Compose
mod Ends
mod Everywhere
mod Halting
mod Paid
mod Rows
mod Whole
mod Writing
