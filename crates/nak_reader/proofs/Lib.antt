pub mod Readings
pub mod Cases
