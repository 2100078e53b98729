-- of this crate alone
mod Scanning
mod Digits
mod Prefix
mod Closing
mod Pieces
mod Fronts
mod Faults
mod Lines
mod Turns
mod Steps
mod Whole
