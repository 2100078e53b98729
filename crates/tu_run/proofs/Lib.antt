-- of this crate alone
mod Budgets
mod Answering
mod Making
mod Commands
mod Words
mod Verdicts
mod Meant
