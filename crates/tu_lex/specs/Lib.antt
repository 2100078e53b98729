pub mod Front
pub mod Reads
pub mod Laws
