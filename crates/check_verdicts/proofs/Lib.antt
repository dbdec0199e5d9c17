pub mod ReadOrRefused
pub mod TextsAsPrograms
