pub mod Accepted
pub mod Writing
