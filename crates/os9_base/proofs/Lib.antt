pub mod NameLemmas
mod RunLemmas
