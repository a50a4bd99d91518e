-- What a reader has to believe: definitions alone.
pub mod Scalar
pub mod Encoding
pub mod WellFormed
pub mod Decoding
pub mod Places
pub mod WhiteSpace
-- What follows from them.
pub mod Examples
pub mod Sizes
pub mod Rows
pub mod RoundTrip
pub mod Walk
pub mod Prefix
pub mod Boundaries
pub mod Members
pub mod Ascii
pub mod Long
pub mod Whole
