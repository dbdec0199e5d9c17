pub mod Behind
pub mod FewEnough
pub mod Inputs
pub mod Leading
pub mod Positions
pub mod Sent
pub mod Shapes
