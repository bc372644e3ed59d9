pub mod Marked
pub mod Summed
pub mod Passed
pub mod Settling
