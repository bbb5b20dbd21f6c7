pub mod JiffTime
pub mod Spelled
pub mod TimeText
