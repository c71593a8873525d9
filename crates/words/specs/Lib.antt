pub mod Cut
pub mod Laws
