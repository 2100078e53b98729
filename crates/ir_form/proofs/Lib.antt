-- for the crates above
pub mod Each
pub mod Spends
pub mod Lists
pub mod Tallies
pub mod Sights
pub mod Decisions
-- of this crate alone
mod Steady
mod Sound
mod Rows
mod GuardRows
mod Onces
mod GuardSums
mod Fitting
mod ValidLists
mod ValidRows
