pub mod Acting
pub mod Agreeing
pub mod Allowed
pub mod Finding
pub mod Fitting
pub mod Formed
pub mod Giving
pub mod Growing
pub mod Histories
pub mod Living
pub mod Looking
pub mod Matching
pub mod NamedForms
pub mod Naming
pub mod Opened
pub mod Owing
pub mod OwnKeys
pub mod Passing
pub mod Sent
pub mod Telling
pub mod Turning
pub mod Walking
mod Lists
mod Served
mod Taken
