pub mod Count
pub mod Kept
pub mod Listed
