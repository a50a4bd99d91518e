pub mod MovableLines
pub mod OneLine
pub mod Skipping
pub mod Looking
pub mod GoodTable
