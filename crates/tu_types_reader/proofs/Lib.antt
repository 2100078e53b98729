-- for the crates above
pub mod Flags
-- of this crate alone
mod Alone
mod Grouping
mod NamePlaces
mod Shortenings
mod Spans
