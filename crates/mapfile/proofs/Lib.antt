pub mod Cuts
pub mod Lawful
pub mod Lists
pub mod Reading
pub mod Same
