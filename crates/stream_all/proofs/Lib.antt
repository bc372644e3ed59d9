pub mod Readings
pub mod Filling
pub mod Lengths
