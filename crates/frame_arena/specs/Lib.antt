pub mod Entries
pub mod Line
pub mod Lines
pub mod Places
