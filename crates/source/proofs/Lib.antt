mod Copying
mod Fronts
mod Making
mod Picking
mod Sampling
