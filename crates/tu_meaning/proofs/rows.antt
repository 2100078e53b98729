pub mod Making
mod Scalars
mod Subprograms
mod Structures
mod Collections
mod Texts
mod References
mod Handlers
mod Input
mod Marks
mod Statements
mod Results
mod Operators
mod ByReference
