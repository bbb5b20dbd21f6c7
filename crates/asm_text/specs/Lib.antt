pub mod Terms
pub mod Views
pub mod Tails
pub mod Cuts
pub mod Offsets
