pub mod Writing
pub mod Tests
pub mod WritingCalls
pub mod Reading
pub mod Known
pub mod ReadingCalls
pub mod RoundTrip
pub mod FileLaws
