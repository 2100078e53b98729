-- for the crates above
pub mod InStep
-- of this crate alone
mod Rows
mod Labels
mod Ticks
mod Reaches
mod Alike
mod Called
mod Routines
mod Whole
mod Traces
mod Agreed
