pub mod Moments
pub mod Stands
pub mod Laws
