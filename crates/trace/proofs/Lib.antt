pub mod Chunks
pub mod Locks
pub mod Skips
pub mod Laying
pub mod Layouts
pub mod Scans
pub mod Counting
pub mod Soundness
