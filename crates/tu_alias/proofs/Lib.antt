pub mod Received
pub mod ByReference
pub mod Meanings
pub mod Unseen
pub mod Unreached
