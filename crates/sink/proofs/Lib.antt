pub mod Answering
pub mod Writing
pub mod Reading
pub mod Repeating
