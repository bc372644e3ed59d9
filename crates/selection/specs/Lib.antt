pub mod Ranked
pub mod Held
pub mod Marked
pub mod Smallest
