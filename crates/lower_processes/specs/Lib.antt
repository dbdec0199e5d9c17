pub mod Behaviours
pub mod Expressions
pub mod Numbers
