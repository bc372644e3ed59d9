pub mod Each
pub mod Merged
pub mod Moving
pub mod Passes
pub mod Halves
pub mod Ranks
pub mod Marked
