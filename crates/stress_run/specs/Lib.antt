pub mod Counts
pub mod Disk
pub mod Nodes
pub mod Stress
pub mod Told
