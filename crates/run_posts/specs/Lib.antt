pub mod CallStates
pub mod Telling
pub mod Open
