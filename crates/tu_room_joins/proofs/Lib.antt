pub mod Flags
pub mod Joined
pub mod Walked
