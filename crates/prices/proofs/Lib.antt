pub mod Front
pub mod Searches
pub mod Terms
