pub mod Links
pub mod Trips
