pub mod Timer
pub mod Make
pub mod Tick
pub mod Hear
pub mod Reset
pub mod Inputs
pub mod Bounds
