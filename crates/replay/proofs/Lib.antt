pub mod LineLaws
pub mod SameLaws
pub mod PartLaws
pub mod CallLaws
pub mod HoldLaws
pub mod ReadLaws
