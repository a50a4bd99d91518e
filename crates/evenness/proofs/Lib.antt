pub mod JustifiedLines
pub mod PassSmooth
