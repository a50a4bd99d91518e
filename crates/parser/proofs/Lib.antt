pub mod PartLaws
pub mod ShorterLaws
