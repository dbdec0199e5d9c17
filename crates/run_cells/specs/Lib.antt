pub mod Awake
pub mod News
pub mod RunStates
pub mod View
pub mod Turns
pub mod Rounds
pub mod Visits
