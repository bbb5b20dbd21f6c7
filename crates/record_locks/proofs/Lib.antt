pub mod NoneHeld
pub mod Room
pub mod Unchanged
