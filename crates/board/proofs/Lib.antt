pub mod Writes
pub mod Searches
pub mod Sums
pub mod Meetings
