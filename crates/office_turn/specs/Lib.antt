pub mod Calls
pub mod Hands
