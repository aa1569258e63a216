pub mod Names
pub mod Sums
pub mod SumPlan
pub mod Tables
pub mod Layers
pub mod Laws
