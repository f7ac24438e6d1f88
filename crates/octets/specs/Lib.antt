pub mod Octets
pub mod Flag
