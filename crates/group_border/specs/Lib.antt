pub mod Border
pub mod Searched
