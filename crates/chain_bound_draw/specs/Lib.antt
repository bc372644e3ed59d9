pub mod Drawing
pub mod Kept
