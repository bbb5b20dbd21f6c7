pub mod Left
pub mod Calls
pub mod Changed
pub mod Drives
pub mod Entries
pub mod Mounted
