pub mod BodyRules
pub mod Leading
pub mod Marks
pub mod Operations
pub mod Steps
