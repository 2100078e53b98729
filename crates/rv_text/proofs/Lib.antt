-- of this crate alone
mod Rows
mod Example
mod Sizes
mod Fitting
mod Placed
mod Settled
mod Bounded
mod Bytes
mod Start
mod Whole
