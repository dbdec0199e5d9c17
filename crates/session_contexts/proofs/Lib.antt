pub mod Examples
pub mod Killing
pub mod Moving
pub mod Settling
pub mod Standing
pub mod Throwing
pub mod Tidying
