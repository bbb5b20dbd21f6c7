pub mod Number
pub mod Cuts
