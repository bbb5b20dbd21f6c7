pub mod LeavingLemmas
pub mod DeviceLemmas
pub mod LineLemmas
pub mod MovingLemmas
pub mod PassingLemmas
pub mod ReadingLemmas
pub mod SendingLemmas
pub mod StepLemmas
pub mod TryingLemmas
pub mod KeyLemmas
mod Quiet
