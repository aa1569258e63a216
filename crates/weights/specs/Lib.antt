pub mod Kinds
pub mod Parts
pub mod Plains
pub mod Paireds
pub mod Sizes
