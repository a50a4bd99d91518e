pub mod Sheet
pub mod WordDrawn
pub mod Stretching
