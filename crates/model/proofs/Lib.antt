pub mod Orders
pub mod Boards
pub mod Blank
pub mod Turns
pub mod Bounds
pub mod Invariant
pub mod Takes
