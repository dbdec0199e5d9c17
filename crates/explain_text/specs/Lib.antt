pub mod Words
pub mod Advised
pub mod Explained
pub mod Noted
