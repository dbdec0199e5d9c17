pub mod Begins
pub mod Normal
pub mod Rests
pub mod Shapes
pub mod Standing
pub mod View
