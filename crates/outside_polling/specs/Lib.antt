pub mod Polls
pub mod Early
