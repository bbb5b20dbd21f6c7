pub mod Drive
pub mod Host
pub mod HostFile
pub mod Plans
pub mod Stream
pub mod Terminal
pub mod TerminalState
