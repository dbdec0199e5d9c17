pub mod Between
pub mod Overs
pub mod Ran
