pub mod First
pub mod Writing
