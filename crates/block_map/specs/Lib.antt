pub mod TakenBlocks
pub mod Window
pub mod Beside
