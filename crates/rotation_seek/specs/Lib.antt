pub mod Met
pub mod Passed
