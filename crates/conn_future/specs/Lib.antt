pub mod Outgoing
pub mod Stages
pub mod Talking
pub mod Law
pub mod Steps
