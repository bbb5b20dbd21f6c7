pub mod Dispatch
pub mod Elder
pub mod Members
pub mod Schedule
pub mod Waits
