pub mod LimitLaws
pub mod TextLaws
