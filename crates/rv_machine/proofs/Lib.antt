-- of this crate alone
mod Texts
mod Steps
mod Bytes
mod Runs
mod Start
