pub mod Accepted
pub mod Passes
pub mod Falling
pub mod Counts
