pub mod Jobs
pub mod Drafts
pub mod Samples
