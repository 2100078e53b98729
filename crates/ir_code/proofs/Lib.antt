-- for the crates above
pub mod Running
pub mod Steps
