pub mod CallLemmas
pub mod NoteLemmas
pub mod RecordLemmas
pub mod RoomLemmas
pub mod SessionLemmas
pub mod StopLemmas
pub mod TopLemmas
pub mod WordLemmas
