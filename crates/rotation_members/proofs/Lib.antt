pub mod Judged
pub mod Filling
pub mod Turning
