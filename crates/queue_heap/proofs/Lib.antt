pub mod Moves
pub mod Writing
pub mod Steps
pub mod Turns
pub mod Heaps
