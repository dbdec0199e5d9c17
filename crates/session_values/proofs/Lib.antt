pub mod Among
pub mod Limits
pub mod Paths
pub mod Stored
pub mod WrittenSteps
