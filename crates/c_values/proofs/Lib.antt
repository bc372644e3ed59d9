pub mod Places
pub mod Variants
