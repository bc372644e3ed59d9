pub mod Parts
pub mod Enlarged
pub mod Taking
pub mod Accepted
