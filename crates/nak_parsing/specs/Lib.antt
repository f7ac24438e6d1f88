pub mod Parser
pub mod Step
