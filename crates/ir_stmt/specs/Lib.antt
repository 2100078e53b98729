pub mod Code
pub mod Built
pub mod Leaves
pub mod Unit
pub mod Made
