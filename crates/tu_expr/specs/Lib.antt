pub mod Parts
pub mod Leaves
pub mod Views
pub mod Falls
pub mod Forms
pub mod Levels
