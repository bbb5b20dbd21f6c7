pub mod CalendarTie
pub mod Digits
pub mod Places
