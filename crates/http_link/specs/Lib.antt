pub mod Requests
pub mod Responses
pub mod Steps
pub mod Trips
