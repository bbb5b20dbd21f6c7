pub mod FileLemmas
pub mod HeldLemmas
pub mod OpenedLemmas
pub mod RequesterLemmas
pub mod SoundLemmas
pub mod StreamLemmas
pub mod TerminalLemmas
pub mod WaitLemmas
