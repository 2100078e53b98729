pub mod Stored
pub mod ExpressionCodes
pub mod ExpressionHeights
pub mod ExpressionViews
pub mod ExpressionFalls
