pub mod Flags
pub mod Inner
