pub mod Gained
pub mod Marked
pub mod Grown
pub mod Own
pub mod Cleared
pub mod Dropped
pub mod Rest
pub mod Release
