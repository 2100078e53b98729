-- for the crates above
pub mod Slots
pub mod Stores
pub mod Access
pub mod Flow
pub mod Ranges
pub mod Callable
pub mod Moving
pub mod Chain
-- of this crate alone
mod Begins
mod Plainly
mod Returned
mod Returns
mod Entered
mod Passing
mod Calls
mod Asks
mod Hands
mod Known
mod Taken
mod Arrays
