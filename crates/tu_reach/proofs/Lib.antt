pub mod Searching
pub mod Rowing
