pub mod Writes
pub mod Window
pub mod Together
pub mod Following
