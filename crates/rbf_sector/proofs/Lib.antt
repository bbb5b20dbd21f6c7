pub mod Pairs
pub mod SegmentList
pub mod Written
pub mod RunAt
