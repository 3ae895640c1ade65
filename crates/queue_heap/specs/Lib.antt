pub mod Order
pub mod Index
pub mod Sifts
pub mod Heaps
