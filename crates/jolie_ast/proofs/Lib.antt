pub mod Escapes
pub mod Folds
pub mod Formed
pub mod Members
pub mod PrintedExpressions
pub mod PrintedProcesses
pub mod PrintedTypes
pub mod Spacing
