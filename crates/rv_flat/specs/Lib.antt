pub mod Linear
pub mod Units
pub mod Flat
pub mod Size
pub mod Parts
pub mod Flow
pub mod Lawful
pub mod Keeps
