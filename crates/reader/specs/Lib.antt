pub mod Steps
pub mod Spots
pub mod Sizes
pub mod Tables
pub mod Boards
pub mod Rules
pub mod Calls
