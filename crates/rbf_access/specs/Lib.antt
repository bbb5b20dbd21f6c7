pub mod Cached
pub mod Drive
pub mod Faults
pub mod Mounted
pub mod Reading
pub mod MapMarks
