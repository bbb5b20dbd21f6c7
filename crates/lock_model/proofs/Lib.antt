pub mod Agreeing
pub mod Chains
pub mod Histories
pub mod Keeping
pub mod Longest
pub mod Ranks
