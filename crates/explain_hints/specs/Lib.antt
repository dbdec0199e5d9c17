pub mod Hints
pub mod MayStand
pub mod Short
