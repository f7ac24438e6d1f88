pub mod Closing
pub mod Closes
