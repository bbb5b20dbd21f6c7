pub mod PieceLemmas
pub mod Prefixes
pub mod CommandLemmas
pub mod NoteLemmas
pub mod VolLemmas
