pub mod Reading
pub mod Storing
pub mod EditLaws
pub mod MovedParts
pub mod InPlace
pub mod MoveTurns
pub mod SearchLaws
