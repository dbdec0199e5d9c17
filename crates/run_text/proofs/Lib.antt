pub mod Computed
pub mod Turns
pub mod Lines
pub mod TreeTexts
