pub mod Divided
pub mod Terms
