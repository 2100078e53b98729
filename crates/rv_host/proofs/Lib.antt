-- of this crate alone
mod SlotLemmas
mod Keeping
mod Telling
mod StreamServices
mod Asking
mod Closed
mod Turns
