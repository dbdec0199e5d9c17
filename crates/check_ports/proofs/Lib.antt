pub mod Behind
pub mod BroughtGroups
pub mod BroughtIn
pub mod Nows
pub mod Sets
pub mod Spared
