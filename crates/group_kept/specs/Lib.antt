pub mod Reckoned
pub mod Kept
pub mod TakeAll
