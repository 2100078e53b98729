-- of this crate alone
mod Sources
mod ProgramRows
mod Alike
mod Forms
mod ProgramLaws
