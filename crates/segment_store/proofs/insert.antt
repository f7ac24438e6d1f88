pub mod Runs
pub mod Meaning
pub mod Calls
