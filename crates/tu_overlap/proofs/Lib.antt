pub mod Steps
pub mod Rows
pub mod Binding
pub mod AllTexts
pub mod Onward
pub mod Telling
pub mod Ruling
pub mod TestRows
