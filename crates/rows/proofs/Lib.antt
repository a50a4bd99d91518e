pub mod CutRestLaws
pub mod HyphenLaws
