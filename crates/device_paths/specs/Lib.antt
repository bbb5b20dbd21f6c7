pub mod Listed
pub mod Standing
pub mod Tail
pub mod Quiet
pub mod Openings
pub mod Places
