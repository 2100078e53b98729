-- for the crates above
pub mod Sets
pub mod Beginning
pub mod Sound
pub mod Level
pub mod Steps
pub mod Chains
pub mod Places
pub mod Standing
-- of this crate alone
mod Complete
mod Rows
mod Counting
