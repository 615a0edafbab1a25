pub mod Finds
pub mod Runs
pub mod Regions
pub mod Stamps
pub mod Marks
pub mod Theorems
