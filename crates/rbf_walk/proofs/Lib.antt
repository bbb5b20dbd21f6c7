pub mod Endings
pub mod Naming
pub mod Places
pub mod Searching
pub mod Stepping
