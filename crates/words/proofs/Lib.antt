mod Rests
mod Signs
mod Words
pub mod Cuts
pub mod Sizes
