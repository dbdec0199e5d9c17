pub mod OrderService
pub mod Lines
pub mod Summary
pub mod Loaded
