pub mod Graphs
pub mod Structures
pub mod Rivals
pub mod Computed
pub mod Theorems
pub mod Worked
