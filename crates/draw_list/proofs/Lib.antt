pub mod Bounded
pub mod Searched
pub mod Within
