pub mod Circle
pub mod Laws
