pub mod Pairs
pub mod Relatives
pub mod Weights
