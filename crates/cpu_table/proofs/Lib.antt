pub mod Classes
pub mod Grid
pub mod Read
pub mod Decoding
pub mod Plain
