pub mod Cross
pub mod Order
