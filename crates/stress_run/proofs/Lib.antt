pub mod Started
pub mod CountLemmas
pub mod DiskLemmas
pub mod EndLemmas
