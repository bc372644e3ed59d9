pub mod Strengths
