pub mod Numbers
pub mod Words
pub mod Stations
pub mod Book
pub mod Sound
pub mod State
