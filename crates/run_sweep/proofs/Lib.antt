pub mod Notes
pub mod Errands
pub mod Heard
pub mod Rounds
