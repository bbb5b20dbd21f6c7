pub mod Entering
mod Seen
mod FirstStarting
pub mod CommandLemmas
pub mod FirstLemmas
pub mod ReadLemmas
pub mod StartLemmas
