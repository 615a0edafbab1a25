pub mod Offering
pub mod Same
pub mod Sieving
pub mod Sounds
pub mod Thinning
pub mod Clearing
pub mod Intaking
pub mod Members
