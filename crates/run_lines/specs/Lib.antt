pub mod Passing
pub mod Told
pub mod Reading
pub mod Writing
pub mod Exchanged
pub mod Keeping
pub mod FrontSteps
pub mod Steps
