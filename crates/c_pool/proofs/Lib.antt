pub mod InUse
pub mod Records
pub mod Meaning
pub mod FreshPools
