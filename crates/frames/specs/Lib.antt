pub mod Resuming
pub mod Framing
pub mod FrameChecks
