pub mod Does
pub mod Operands
pub mod Running
