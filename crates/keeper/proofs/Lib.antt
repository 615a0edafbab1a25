pub mod Telling
pub mod Clocking
pub mod Walking
pub mod Storing
