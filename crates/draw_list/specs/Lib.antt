pub mod Room
pub mod Found
