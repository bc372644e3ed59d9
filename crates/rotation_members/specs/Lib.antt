pub mod Members
pub mod Filled
