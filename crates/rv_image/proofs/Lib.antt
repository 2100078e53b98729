-- of this crate alone
mod Words
mod RoundTrip
mod Rows
