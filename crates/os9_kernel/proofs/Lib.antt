mod Acting
mod Asking
mod Calling
pub mod Changing
mod Columns
mod Counting
mod Delivering
mod Ending
mod Executing
pub mod Holding
mod Loading
mod Looking
mod Marking
mod PathCalls
mod Pending
pub mod Represented
mod Running
mod Serving
mod Standing
mod Starting
mod Ticking
mod Timing
mod Turning
mod Turns
mod Waiting
