pub mod Sampling
pub mod Joining
