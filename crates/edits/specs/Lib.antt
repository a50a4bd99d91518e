pub mod Pointer
pub mod OldLines
pub mod Checking
pub mod RestFits
