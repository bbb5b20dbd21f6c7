pub mod BootDisk
pub mod Accepted
pub mod Random
pub mod Stress
