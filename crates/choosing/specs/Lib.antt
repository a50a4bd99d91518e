pub mod CharsBehind
pub mod Taking
pub mod Choosing
pub mod ChosenPart
