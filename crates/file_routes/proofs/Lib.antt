pub mod NameLemmas
pub mod ReachLemmas
pub mod VolumeLemmas
pub mod WalkLemmas
pub mod RouteLemmas
