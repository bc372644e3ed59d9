pub mod Passes
pub mod Counted
pub mod Known
