mod Children
mod Delivering
pub mod Entered
pub mod First
mod Leaving
pub mod Living
mod LivingTurns
pub mod Primaries
mod Sleeps
pub mod UserBytes
pub mod FreeNumbers
mod Choosing
mod Registers
pub mod Tied
