pub mod FieldLaws
pub mod SignLaws
