pub mod Scan
pub mod Filled
