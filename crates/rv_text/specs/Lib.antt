pub mod Lengths
pub mod Text
pub mod Ready
pub mod Agrees
