-- of this crate alone
mod Arms
mod Forms
mod Rows
