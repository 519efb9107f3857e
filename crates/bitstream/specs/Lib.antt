pub mod Outcome
pub mod Bits
pub mod Fields
pub mod Reading
pub mod Writing
pub mod Escapes
pub mod Windows
