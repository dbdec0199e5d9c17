pub mod PortParts
pub mod PortRules
pub mod SetRules
pub mod Spared
pub mod WrittenBodies
