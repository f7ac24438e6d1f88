pub mod Sizes
pub mod Accepted
pub mod Together
pub mod Readable
pub mod Parting
pub mod Named
pub mod Cases
