pub mod Places
pub mod Allotted
