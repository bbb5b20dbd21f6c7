pub mod Flow
pub mod Keys
