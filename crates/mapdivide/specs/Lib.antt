pub mod Closing
pub mod Listing
