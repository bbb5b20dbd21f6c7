pub mod Again
pub mod Attempt
pub mod Context
pub mod Files
pub mod Sound
pub mod Terminals
