pub mod FieldLaws
pub mod FlagLaws
pub mod SePlace
pub mod StructLaws
