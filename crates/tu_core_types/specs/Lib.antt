pub mod StatementCodes
pub mod StatementHeights
pub mod StatementViews
pub mod StatementFalls
pub mod ProgramCodes
pub mod ProgramViews
