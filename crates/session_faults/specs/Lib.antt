pub mod Decisions
pub mod Least
pub mod Places
pub mod Shapes
