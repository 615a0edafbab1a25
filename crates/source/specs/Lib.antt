pub mod Handed
pub mod Listed
pub mod Picked
pub mod Piles
pub mod Sampled
