pub mod Runs
pub mod Numbers
pub mod Sums
pub mod Packets
pub mod Metadata
