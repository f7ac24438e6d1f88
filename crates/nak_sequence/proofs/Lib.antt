pub mod Listed
pub mod Chain
pub mod Answers
