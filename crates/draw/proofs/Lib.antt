pub mod Accepted
pub mod Intended
pub mod Panel
pub mod NoLists
