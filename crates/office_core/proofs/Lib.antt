pub mod OneAnswer
pub mod Longer
pub mod Numbers
pub mod Said
pub mod Sent
pub mod Unborn
