pub mod Stages
pub mod Seen
pub mod Talking
pub mod Law
pub mod Prompt
pub mod Steps
