pub mod Leaving
pub mod Searched
pub mod Moved
