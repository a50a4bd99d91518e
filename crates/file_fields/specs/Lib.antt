pub mod Putting
pub mod Fields
pub mod FileNumbers
pub mod FileFields
