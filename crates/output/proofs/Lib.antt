pub mod Printing
pub mod Racing
pub mod Saying
pub mod Responding
pub mod Overlapping
