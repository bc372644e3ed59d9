pub mod InOrder
pub mod Merged
