pub mod Meant
pub mod Ready
