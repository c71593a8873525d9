pub mod Spans
pub mod Floors
pub mod Law
pub mod Figures
