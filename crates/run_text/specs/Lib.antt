pub mod Strings
pub mod Nodes
pub mod Words
pub mod Lines
pub mod Writing
