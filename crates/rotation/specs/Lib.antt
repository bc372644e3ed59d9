pub mod Answer
pub mod Left
