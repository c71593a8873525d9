pub mod Runs
pub mod Figures
