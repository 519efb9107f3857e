pub mod Entries
pub mod Filters
pub mod Weights
pub mod Answers
pub mod Inner
