pub mod TextLemmas
mod FitLemmas
mod PushLemmas
pub mod AskLemmas
pub mod EndLemmas
pub mod KeyLemmas
pub mod LineLemmas
pub mod LoadLemmas
pub mod PartLemmas
pub mod PassLemmas
pub mod SessionLemmas
pub mod TurnLemmas
