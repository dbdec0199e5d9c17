pub mod LoweredTypes
pub mod SeenTypes
