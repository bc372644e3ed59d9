pub mod Made
pub mod Accepted
