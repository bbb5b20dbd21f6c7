pub mod EditLemmas
pub mod PipeLemmas
pub mod RoomLemmas
