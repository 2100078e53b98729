pub mod CutOff
pub mod Keys
pub mod OneMore
pub mod Numbering
mod Rows
