pub mod Sectors
pub mod Std
