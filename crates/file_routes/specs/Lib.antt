pub mod Calls
pub mod Reached
pub mod Routes
pub mod Walks
