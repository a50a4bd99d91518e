pub mod TokenDrawn
pub mod PrintEvents
pub mod TokenEvents
