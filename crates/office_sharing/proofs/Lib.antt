pub mod Histories
pub mod Steps
pub mod Dealing
pub mod Joining
pub mod Ending
pub mod Sending
