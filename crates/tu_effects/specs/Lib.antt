pub mod Questions
pub mod Even
pub mod Relations
pub mod Least
pub mod Faults
pub mod Answers
