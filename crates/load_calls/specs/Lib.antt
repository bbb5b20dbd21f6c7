pub mod Trying
pub mod Entering
pub mod Calls
pub mod Found
pub mod Reading
pub mod Attempts
pub mod Loading
pub mod Starting
