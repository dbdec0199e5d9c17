pub mod Circles
pub mod InterfaceRules
pub mod TypeRules
