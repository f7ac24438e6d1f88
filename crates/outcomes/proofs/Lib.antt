pub mod Apart
pub mod Refusals
pub mod Answered
pub mod FirstOf
pub mod Ends
