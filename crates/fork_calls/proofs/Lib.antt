mod Forking
mod LoadedPrograms
pub mod Programs
mod Chaining
