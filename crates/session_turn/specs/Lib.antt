pub mod Seen
pub mod Asking
pub mod Lives
pub mod Turns
pub mod Looks
pub mod Attempts
pub mod Laws
pub mod Passes
