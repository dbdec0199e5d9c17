pub mod Breaches
