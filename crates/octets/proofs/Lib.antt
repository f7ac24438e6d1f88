pub mod Fields
pub mod Over
pub mod Turns
pub mod Largest
