pub mod Lines
pub mod Numbers
pub mod Shape
pub mod Same
pub mod Tally
pub mod Record
