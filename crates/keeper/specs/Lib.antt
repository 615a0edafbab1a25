pub mod Telling
pub mod Meaning
pub mod Kept
pub mod Walks
