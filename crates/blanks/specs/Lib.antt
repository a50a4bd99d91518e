pub mod LookLaws
pub mod TabLaws
pub mod BeyondLaws
pub mod HyphenLaws
pub mod CutRests
