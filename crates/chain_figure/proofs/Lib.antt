pub mod Late
pub mod Reckoning
