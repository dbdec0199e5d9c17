pub mod Asked
pub mod Came
pub mod Comes
pub mod Gifts
pub mod Goes
pub mod Messages
pub mod Seen
pub mod Reads
