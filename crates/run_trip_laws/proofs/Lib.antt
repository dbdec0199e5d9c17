pub mod Places
pub mod Growing
pub mod Fetched
pub mod Settling
pub mod Completing
