pub mod Rules
pub mod Looks
pub mod Parts
pub mod Placings
pub mod Hirings
pub mod Runs
pub mod Laws
