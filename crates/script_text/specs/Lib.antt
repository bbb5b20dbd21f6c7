pub mod Fault
pub mod Lines
pub mod Reached
pub mod Script
pub mod Slices
pub mod Totals
