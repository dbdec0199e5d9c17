pub mod Alike
pub mod Examples
pub mod Halving
pub mod KeySets
pub mod Mirrored
pub mod Orders
pub mod Sessions
pub mod Writing
