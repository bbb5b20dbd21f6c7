pub mod TryingLemmas
pub mod EnteringLemmas
pub mod LoadedLemmas
pub mod OutcomeLemmas
pub mod SeenLemmas
pub mod FirstLemmas
pub mod FoundLemmas
pub mod ReadingLemmas
pub mod TieLemmas
pub mod RouteLemmas
mod AttemptLemmas
mod GoingOnLemmas
mod LinkLemmas
mod MapLemmas
mod NamedLemmas
mod ParameterLemmas
mod ReadyLemmas
mod RoomLemmas
mod StartLemmas
