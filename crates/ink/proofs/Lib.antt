pub mod StretchLaws
pub mod WordLoop
