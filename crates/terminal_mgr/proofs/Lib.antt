pub mod PollLemmas
pub mod PutLemmas
pub mod RingLemmas
pub mod SameCall
pub mod TypingLemmas
