pub mod CrcLaws
pub mod LoadingLemmas
pub mod ModuleLaws
pub mod ModuleListLaws
mod Worked
pub mod EldestLaws
pub mod TurnLaws
