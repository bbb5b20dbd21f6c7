pub mod Delivery
pub mod First
pub mod Ready
pub mod Sound
pub mod Tie
pub mod Beginning
pub mod Active
