pub mod Timer
pub mod Heard
