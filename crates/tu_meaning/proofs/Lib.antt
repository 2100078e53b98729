pub mod Alike
pub mod WordForms
mod Forms
mod ProgramLaws
mod Finds
mod FindsForms
mod NeverStuck
mod rows
