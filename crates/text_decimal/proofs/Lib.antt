pub mod Laying
pub mod Writing
pub mod Digits
