pub mod Mounts
pub mod Objects
pub mod Seen
pub mod States
