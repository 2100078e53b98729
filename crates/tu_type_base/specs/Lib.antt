pub mod Checked
pub mod Answers
