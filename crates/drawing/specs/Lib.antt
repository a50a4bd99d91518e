pub mod Drawn
pub mod PassDrawn
pub mod DrawingOn
pub mod PlainDrawn
pub mod CutDrawn
pub mod DrawnBounds
pub mod PastTokens
pub mod LoneLines
