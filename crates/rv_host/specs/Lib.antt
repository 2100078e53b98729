pub mod Told
pub mod Slots
pub mod Errors
pub mod Served
pub mod Host
