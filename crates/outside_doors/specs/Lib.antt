pub mod Counts
pub mod Attempts
pub mod Returns
