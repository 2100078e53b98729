-- for the crates above
pub mod Outcomes
pub mod Leaves
pub mod Sums
pub mod Multiplied
pub mod Cells
pub mod Comparing
-- of this crate alone
mod Tests
mod Numbers
mod Products
mod Growing
