pub mod Listing
pub mod ListingAgain
pub mod PagesKept
