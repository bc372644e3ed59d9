pub mod Room
pub mod Panel
