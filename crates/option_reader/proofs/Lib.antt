pub mod Forms
pub mod Rules
pub mod Turns
pub mod RowLemmas
pub mod Walks
pub mod Parses
pub mod Dashes
