pub mod Histories
pub mod Passing
pub mod Reading
pub mod Words
pub mod Calls
pub mod Ends
