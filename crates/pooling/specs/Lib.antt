pub mod Pool
pub mod Share
pub mod Events
pub mod History
