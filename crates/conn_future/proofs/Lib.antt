pub mod Standing
pub mod Writing
pub mod Sending
pub mod Turning
pub mod Words
