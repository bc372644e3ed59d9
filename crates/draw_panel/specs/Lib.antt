pub mod Panel
pub mod Telling
