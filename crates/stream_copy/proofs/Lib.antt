pub mod Numbers
pub mod Front
pub mod Written
pub mod Again
