mod Hands
mod Allowed
mod Joined
mod Telling
mod Own
pub mod Sending
