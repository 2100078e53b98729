-- for the crates above
pub mod Stretches
pub mod Comes
pub mod Places
pub mod Steps
