pub mod Lines
pub mod Words
pub mod Said
pub mod Listings
pub mod Inputs
pub mod Races
pub mod Monitors
pub mod Programs
