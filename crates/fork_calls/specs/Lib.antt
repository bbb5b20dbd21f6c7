pub mod Loading
pub mod Naming
pub mod Chaining
pub mod Starting
