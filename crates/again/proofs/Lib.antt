pub mod SkipLaws
pub mod RestLaws
