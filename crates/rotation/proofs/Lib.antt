pub mod Members
pub mod Composition
pub mod NoLists
