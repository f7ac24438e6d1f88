pub mod Accepted
pub mod Tail
pub mod Answers
