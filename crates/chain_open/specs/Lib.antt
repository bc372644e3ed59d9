pub mod Opened
pub mod Panel
