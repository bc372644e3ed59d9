pub mod Leavers
