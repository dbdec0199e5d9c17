pub mod Folds
pub mod Formed
pub mod Members
pub mod Spacing
pub mod PrintedExpressions
pub mod PrintedProcesses
pub mod Printed
pub mod PrintedParts
