pub mod PageCounts
pub mod PastWriting
pub mod PageTurns
pub mod WrittenPast
