pub mod Counting
pub mod Sizes
pub mod Histories
pub mod Cases
pub mod Whole
