pub mod Example
pub mod Table
