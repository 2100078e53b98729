pub mod StatementLow
pub mod StatementRows
pub mod StatementFusion
pub mod Measured
