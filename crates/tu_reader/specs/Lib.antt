pub mod Ahead
pub mod Reads
pub mod Taken
pub mod Nests
pub mod Kinds
