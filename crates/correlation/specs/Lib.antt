pub mod Index
pub mod Order
pub mod Places
pub mod Rows
pub mod Sessions
pub mod Sought
pub mod View
