pub mod Factors
pub mod Matrix
pub mod Answers
pub mod Inner
