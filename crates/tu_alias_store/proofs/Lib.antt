pub mod Ways
pub mod Stores
pub mod Lent
pub mod Related
pub mod Changes
