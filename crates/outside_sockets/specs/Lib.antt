pub mod Locations
pub mod Sockets
