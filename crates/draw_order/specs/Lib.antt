pub mod Sampling
