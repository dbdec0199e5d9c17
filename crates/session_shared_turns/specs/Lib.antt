pub mod Passes
pub mod Stays
