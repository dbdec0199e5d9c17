pub mod Arrivals
pub mod Lines
pub mod Patience
