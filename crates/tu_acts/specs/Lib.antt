pub mod ActCodes
pub mod ActViews
pub mod Rows
pub mod Texts
