pub mod Outcome
pub mod Refusal
pub mod Answered
pub mod Checks
pub mod Told
