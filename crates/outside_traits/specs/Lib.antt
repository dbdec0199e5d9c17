pub mod Calls
pub mod Causes
pub mod Memory
pub mod Told
pub mod Wires
