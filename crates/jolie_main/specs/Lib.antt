pub mod Outside
pub mod Headline
