pub mod ListSyntax
pub mod ListData
pub mod Resolved
pub mod Inner
pub mod Converted
