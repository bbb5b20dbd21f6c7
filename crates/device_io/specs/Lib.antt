pub mod Leaving
pub mod Moving
pub mod Reading
pub mod Sending
pub mod Streams
pub mod Trying
pub mod Keys
