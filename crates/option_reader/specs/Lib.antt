pub mod Given
pub mod Dash
pub mod Rows
