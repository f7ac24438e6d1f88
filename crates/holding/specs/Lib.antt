pub mod Count
pub mod Held
pub mod MissingOctets
pub mod Whole
