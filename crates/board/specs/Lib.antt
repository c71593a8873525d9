pub mod Tables
pub mod Lives
pub mod Boards
