pub mod Words
pub mod Pieces
pub mod Meets
pub mod Comparisons
pub mod Laws
