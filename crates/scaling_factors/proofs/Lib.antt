pub mod ListLaws
pub mod ByteLaws
pub mod FactorLaws
pub mod PartLaws
pub mod FillLaws
pub mod DcLaws
pub mod ScanLaws
pub mod AnyLaws
pub mod ZeroLaws
pub mod MatrixLaws
pub mod WritableLaws
pub mod AnswerLaws
pub mod ResultLaws
mod Examples
