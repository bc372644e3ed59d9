pub mod Outsideable
