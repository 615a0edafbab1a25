pub mod Taking
pub mod Line
pub mod Readable
pub mod Written
pub mod Tallied
pub mod Histories
