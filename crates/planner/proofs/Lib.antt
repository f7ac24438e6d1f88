pub mod Tested
pub mod Union
pub mod Ends
