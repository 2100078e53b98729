pub mod Simple
pub mod Streams
pub mod Statements
pub mod Heads
pub mod Subprograms
pub mod Modules
pub mod Programs
