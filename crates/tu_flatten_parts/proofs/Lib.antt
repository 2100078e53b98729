-- for the crates above
pub mod Lists
pub mod Steps
