pub mod Numbers
pub mod Stretches
pub mod Moving
pub mod LinesFrom
pub mod EditAlone
