mod OnePass
pub mod ScheduleLaws
pub mod TurnLists
