pub mod Sums
pub mod Expressions
pub mod Operands
pub mod Instructions
pub mod Statements
pub mod Lines
pub mod Labels
