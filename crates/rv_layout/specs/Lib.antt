pub mod Pieces
pub mod Rooms
pub mod Moves
pub mod Calling
pub mod Words
pub mod Ready
pub mod Held
