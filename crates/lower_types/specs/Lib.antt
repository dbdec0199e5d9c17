pub mod FieldBounds
pub mod LoweredInterfaces
pub mod LoweredTypes
