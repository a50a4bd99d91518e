pub mod CheckLaws
pub mod MeetLaws
pub mod FitLaws
