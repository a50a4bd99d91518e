pub mod RunEvents
pub mod TabEvents
pub mod WordEvents
