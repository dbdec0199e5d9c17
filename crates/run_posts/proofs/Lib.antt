pub mod Added
pub mod Settling
pub mod Halting
pub mod Expecting
pub mod CallStates
pub mod Opening
pub mod Ending
