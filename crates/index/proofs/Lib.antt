pub mod Answering
pub mod InOrder
pub mod ReadYs
