pub mod Spelling
pub mod Decoded
