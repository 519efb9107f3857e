pub mod Pieces
pub mod Recorded
pub mod Collected
pub mod Scanning
pub mod Feeding
pub mod Cuts
pub mod Inner
