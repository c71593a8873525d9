pub mod Plans
pub mod Charges
pub mod Calls
pub mod Law
