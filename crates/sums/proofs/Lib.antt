pub mod Toggles
pub mod Rising
pub mod Odds
pub mod Layered
