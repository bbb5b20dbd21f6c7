pub mod Windows
pub mod Stores
pub mod Counts
pub mod Places
pub mod Maps
pub mod Pools
pub mod Overwriting
