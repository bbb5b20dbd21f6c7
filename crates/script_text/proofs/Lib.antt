pub mod KeyLemmas
pub mod SliceLemmas
pub mod TextLemmas
pub mod TotalLemmas
pub mod WordLemmas
