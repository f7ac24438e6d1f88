pub mod Plan
pub mod Tests
pub mod Check
pub mod Fits
