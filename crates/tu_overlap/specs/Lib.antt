pub mod Verdicts
pub mod Pairs
pub mod Faults
pub mod Answers
pub mod Laws
