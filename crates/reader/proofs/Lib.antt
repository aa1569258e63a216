pub mod Rows
pub mod Tables
pub mod Sizes
pub mod Turns
pub mod Spans
pub mod Fits
pub mod Floors
mod Moved
pub mod Rounds
pub mod Given
pub mod Taking
