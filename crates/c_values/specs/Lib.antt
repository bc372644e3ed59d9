pub mod Figures
pub mod Reads
pub mod Record
