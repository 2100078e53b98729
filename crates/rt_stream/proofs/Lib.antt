-- for the crates above
pub mod Calls
pub mod Valid
-- of this crate alone
mod Pieces
mod Buffer
mod Rounds
mod Digits
mod Blanks
mod Body
