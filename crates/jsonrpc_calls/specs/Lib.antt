pub mod CallTexts
pub mod Console
pub mod Heard
pub mod Laws
pub mod Walks
