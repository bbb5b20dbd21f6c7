pub mod AttemptLemmas
mod Ends
pub mod Quiet
pub mod RunningCalls
pub mod Closing
pub mod Lifting
pub mod OnCalls
pub mod OnNumbers
pub mod OnPaths
