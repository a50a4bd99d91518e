pub mod WidthFile
pub mod WidthTurns
pub mod Pending
pub mod Blocks
pub mod Going
pub mod WholeStream
