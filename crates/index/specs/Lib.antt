pub mod Stretch
pub mod Depth
