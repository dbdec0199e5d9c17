pub mod Contexts
pub mod Laws
pub mod Members
pub mod Tidy
pub mod Walks
