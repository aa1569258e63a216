pub mod Picks
pub mod Search
pub mod Row
pub mod Steps
pub mod Ties
pub mod Floor
