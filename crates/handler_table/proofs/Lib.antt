pub mod Counted
pub mod Fills
pub mod Places
pub mod Sums
pub mod Takes
pub mod Views
