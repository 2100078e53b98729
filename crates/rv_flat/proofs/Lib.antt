-- of this crate alone
mod Close
mod Sweeps
mod Runs
mod Whole
mod Spends
mod Lists
mod Sizes
mod Parts
mod Labels
mod Words
mod Takers
mod Marks
mod Clauses
mod Rows
mod GuardRows
