pub mod Writing
pub mod Sampled
