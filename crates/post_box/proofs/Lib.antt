pub mod Oldest
pub mod Mailboxes
