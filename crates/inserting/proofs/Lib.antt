pub mod Run
pub mod Placed
