-- of this crate alone
mod Starts
mod Equal
mod Arms
mod Places
