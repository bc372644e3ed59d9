pub mod Answer
pub mod Design
