pub mod Promises
pub mod RoundTrip
