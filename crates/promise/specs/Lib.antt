pub mod Sessions
pub mod Theorem
pub mod Examples
