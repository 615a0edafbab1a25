pub mod Latests
pub mod Pushes
pub mod Rivals
pub mod Orders
pub mod Exact
