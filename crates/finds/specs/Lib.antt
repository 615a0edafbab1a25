pub mod Latest
pub mod Found
pub mod Theorems
