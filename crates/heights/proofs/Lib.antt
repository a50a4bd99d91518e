pub mod Signs
pub mod Upright
pub mod Adding
pub mod YsTurns
