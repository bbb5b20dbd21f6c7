pub mod Places
pub mod Table
pub mod ModuleLemmas
pub mod NameLemmas
