pub mod Acted
pub mod Entered
pub mod Opened
pub mod Wanted
