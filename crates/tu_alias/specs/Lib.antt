pub mod Guarded
pub mod Laws
pub mod Unseen
