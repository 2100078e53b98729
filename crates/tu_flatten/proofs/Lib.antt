-- of this crate alone
mod Arms
mod Lines
mod Low
