pub mod Checks
pub mod Add
pub mod Remove
pub mod Coalesce
pub mod Insert
pub mod SegmentInStore
pub mod WriteSegmentsToBytes
pub mod Slots
