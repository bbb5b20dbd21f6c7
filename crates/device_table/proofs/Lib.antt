pub mod TerminalLemmas
pub mod StreamLemmas
