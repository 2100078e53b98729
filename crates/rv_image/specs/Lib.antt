pub mod Picture
pub mod Reading
pub mod Start
pub mod Steps
pub mod Streams
pub mod Run
