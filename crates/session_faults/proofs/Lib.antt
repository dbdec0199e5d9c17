pub mod Among
pub mod Carried
pub mod Killed
pub mod Least
pub mod Positions
pub mod Tests
