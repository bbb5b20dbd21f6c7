pub mod Assembled
pub mod Bytes
pub mod Faults
pub mod Stages
pub mod Pieces
pub mod SourceRows
