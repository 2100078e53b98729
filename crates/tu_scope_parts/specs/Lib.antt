pub mod Walk
pub mod Adds
pub mod Roles
