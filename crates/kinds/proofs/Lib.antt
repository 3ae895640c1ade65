pub mod Order
pub mod Growth
mod Alongside
