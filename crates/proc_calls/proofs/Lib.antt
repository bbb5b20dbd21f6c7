pub mod Addresses
pub mod Linking
pub mod Naming
pub mod Steps
pub mod Unlinking
pub mod Turns
pub mod Comparing
pub mod Seen
