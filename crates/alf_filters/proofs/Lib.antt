pub mod EntryLaws
pub mod RowLaws
pub mod WeightLaws
pub mod AskLaws
pub mod FitLaws
pub mod Examples
pub mod Served
