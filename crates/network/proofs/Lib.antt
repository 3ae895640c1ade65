pub mod Counted
pub mod Drawing
pub mod Filled
pub mod Leaving
pub mod Packing
pub mod Parts
pub mod Serving
pub mod Slots
