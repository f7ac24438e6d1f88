pub mod Flat
pub mod Requests
pub mod Parts
pub mod Room
pub mod Checks
pub mod Injective
pub mod Asks
