pub mod Fine
pub mod Lent
pub mod Moves
pub mod Kept
pub mod FineLaws
pub mod FineSteps
