pub mod Numerals
pub mod Lines
pub mod Grammar
pub mod Words
pub mod Session
