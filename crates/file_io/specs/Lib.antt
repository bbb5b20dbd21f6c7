pub mod Calls
pub mod Ending
pub mod Opened
pub mod Reading
pub mod Sending
pub mod Trying
pub mod Writing
