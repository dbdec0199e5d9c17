pub mod Below
pub mod Faults
pub mod Found
pub mod Lists
pub mod Operands
pub mod Parses
pub mod Ranges
