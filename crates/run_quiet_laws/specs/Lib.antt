pub mod Brings
pub mod Ends
pub mod Laws
