pub mod FromJson
pub mod Laws
pub mod Posted
pub mod Putting
pub mod Responses
pub mod ToJson
pub mod Walks
