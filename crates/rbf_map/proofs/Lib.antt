pub mod Changed
pub mod Marks
pub mod Searched
pub mod Sectors
pub mod Volume
