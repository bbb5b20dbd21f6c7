pub mod Call
pub mod Images
pub mod Record
pub mod TopCall
pub mod Words
