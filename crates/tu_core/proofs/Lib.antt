pub mod Tests
pub mod Same
pub mod WellTyped
mod Samples
mod Rows
mod RuleRows
mod WellFormedRows
mod PlaceRows
mod TextRows
