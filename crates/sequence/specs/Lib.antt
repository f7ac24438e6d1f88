pub mod Entries
pub mod Sequence
pub mod Calls
pub mod Parted
