pub mod Beginning
pub mod Booting
pub mod Start
