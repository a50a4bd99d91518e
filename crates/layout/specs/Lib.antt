pub mod EventsFrom
pub mod DrawTurns
pub mod DrawGoing
pub mod DrawFound
pub mod DrawSeen
pub mod Checking
pub mod Answering
