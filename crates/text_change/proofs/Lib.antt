pub mod Quotient
pub mod Sizes
