-- of this crate alone
mod Names
mod Lists
mod Levels
mod Bodies
mod Declarations
mod Items
mod Answering
mod Limits
