pub mod Gains
pub mod Memory
pub mod References
pub mod Renaming
pub mod Sound
pub mod Pieces
pub mod Tie
pub mod Running
