pub mod Named
pub mod Numbers
pub mod Plays
pub mod Rule
pub mod Steps
pub mod Views
