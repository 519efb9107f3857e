pub mod SmallLaws
pub mod NumberLaws
pub mod LineLaws
pub mod PutLaws
pub mod BelowLaws
pub mod ListLaws
