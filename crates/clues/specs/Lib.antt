pub mod FigureBounds
pub mod Tallying
pub mod Summing
pub mod Adding
pub mod Gathering
pub mod Feeds
pub mod Counting
