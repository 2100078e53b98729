pub mod Placed
pub mod Site
pub mod Mixed
pub mod Ready
