pub mod Addresses
pub mod Heads
pub mod Heard
mod Lines
pub mod Trips
