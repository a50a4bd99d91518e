pub mod Judging
pub mod LineByLine
pub mod SkipTurns
pub mod PlainTurns
pub mod StepTurns
