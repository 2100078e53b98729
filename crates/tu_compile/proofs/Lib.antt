-- of this crate alone
mod Generating
mod Faults
mod Places
mod Images
