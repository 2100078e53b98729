pub mod Places
pub mod Renamed
pub mod Assigned
pub mod Holds
pub mod Keeps
