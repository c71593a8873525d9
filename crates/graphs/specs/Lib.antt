pub mod Graphs
pub mod Scripts
pub mod Commands
pub mod Reading
pub mod Writing
pub mod Law
pub mod Values
