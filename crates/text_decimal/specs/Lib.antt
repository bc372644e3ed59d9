pub mod Put
pub mod Wrote
