-- for the crates above
pub mod RoundTrip
pub mod Words
pub mod TextStays
-- of this crate alone
mod Fields
mod Rows
