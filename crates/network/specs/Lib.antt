pub mod Links
pub mod Shape
pub mod Packed
pub mod Leaving
pub mod Within
pub mod Drawn
pub mod Places
pub mod Serves
