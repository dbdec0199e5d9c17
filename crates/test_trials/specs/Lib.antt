pub mod Same
pub mod Counts
pub mod Sessions
pub mod Quiet
pub mod Collected
pub mod Fronts
