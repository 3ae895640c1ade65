pub mod Orders
pub mod Places
pub mod Writes
pub mod States
pub mod Calls
pub mod Runs
pub mod Drains
pub mod Lents
