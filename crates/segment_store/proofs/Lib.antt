pub mod Cases
pub mod Behind
pub mod add
pub mod coalesce
pub mod insert
pub mod segment_in_store
pub mod write_segments_to_bytes
