pub mod Answers
pub mod Signs
pub mod Steps
