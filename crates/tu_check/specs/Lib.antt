pub mod Built
pub mod Names
pub mod Refusals
pub mod Errors
pub mod Limits
pub mod Laws
