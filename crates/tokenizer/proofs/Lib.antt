pub mod ReadingLaws
pub mod TokenizeLaws
pub mod WriteLaws
