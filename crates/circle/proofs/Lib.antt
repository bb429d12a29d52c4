pub mod Root
pub mod Tests
pub mod Places
pub mod Wave
pub mod Steps
pub mod Stored
pub mod Addition
pub mod Laws
