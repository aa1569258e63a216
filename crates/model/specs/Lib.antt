pub mod Words
pub mod Moves
pub mod Model
pub mod Calls
