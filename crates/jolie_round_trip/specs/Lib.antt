pub mod Placeless
pub mod ReadsBack
