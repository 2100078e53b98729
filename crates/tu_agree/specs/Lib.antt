pub mod Agrees
pub mod Example
pub mod Keep
pub mod Laws
pub mod Outcomes
