pub mod Polling
pub mod Term
pub mod Typing
