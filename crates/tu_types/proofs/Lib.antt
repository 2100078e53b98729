pub mod Reading
mod ExpressionRows
mod TypeRows
mod PlaceRows
mod StatementRows
mod ProgramRows
mod CoreRows
