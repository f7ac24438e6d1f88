pub mod Header
pub mod Pdu
pub mod Request
pub mod Inner
pub mod Writer
