pub mod Spots
pub mod Section
pub mod Entries
pub mod Feed
pub mod Standing
pub mod Whole
