pub mod Answers
mod Bytes
pub mod Contents
pub mod Covering
pub mod Cycles
mod LockEnds
mod Open
mod Volumes
pub mod Agreed
pub mod Apart
pub mod Changes
pub mod CallLocks
pub mod AskedEvents
pub mod Covered
pub mod Deadlocks
pub mod Descs
pub mod DeviceDescriptors
pub mod GetBytes
pub mod Held
pub mod HeldAttempts
pub mod HeldClose
pub mod HeldEvents
pub mod Histories
pub mod LockTables
pub mod LockedBytes
pub mod LockedOut
pub mod OnFiles
pub mod OtherCalls
pub mod Overlaps
pub mod Owners
pub mod Places
pub mod PutBytes
pub mod Runs
pub mod VolumeEvents
pub mod Writes
pub mod Causes
pub mod DeviceWaits
pub mod WaitEnds
pub mod Events
pub mod Living
pub mod Locks
pub mod Looked
pub mod OpenRuns
pub mod Ticks
pub mod Waits
