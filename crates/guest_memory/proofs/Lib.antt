pub mod Changes
pub mod DataArea
pub mod Directory
pub mod Entered
pub mod Gains
pub mod HeldGroups
pub mod Keeping
pub mod Leaving
pub mod Lists
pub mod MappedGroups
pub mod Naming
pub mod Living
pub mod Objects
pub mod Renamed
pub mod Represented
pub mod Runs
pub mod Starting
pub mod Stores
pub mod Times
pub mod Writing
mod Areas
mod ByteCalls
mod EnterCalls
mod First
mod GroupCalls
pub mod Headers
mod LineLemmas
mod LinkCalls
mod MapCalls
mod NamedSteps
mod Ranges
mod RunCalls
pub mod Seen
mod StartCalls
