-- of this crate alone
mod Finding
mod Zipping
mod Moving
mod PuttingOff
mod Mixing
mod Labelling
mod Entries
mod Routines
mod Renaming
mod Readying
mod Ranges
mod Measures
