pub mod Bin
pub mod Curve
pub mod Map
pub mod Answers
pub mod Inner
pub mod Division
