pub mod Turns
pub mod Both
pub mod Gathering
