pub mod Exits
pub mod Scripts
pub mod Taken
pub mod Exact
pub mod Every
pub mod Refused
pub mod Laws
pub mod Valued
