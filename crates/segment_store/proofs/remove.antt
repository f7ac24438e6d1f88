pub mod Split
pub mod Meaning
