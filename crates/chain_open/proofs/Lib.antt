pub mod Fitting
pub mod Either
