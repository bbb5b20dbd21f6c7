pub mod NamesLemmas
pub mod StandingLemmas
pub mod QuietLemmas
pub mod OpenLemmas
