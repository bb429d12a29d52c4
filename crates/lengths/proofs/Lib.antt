pub mod Lengths
pub mod ElevenLengths
