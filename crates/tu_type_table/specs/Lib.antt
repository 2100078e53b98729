pub mod Types
pub mod Index
