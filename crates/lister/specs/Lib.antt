pub mod Lines
pub mod LinesLaws
pub mod LinesVectors
pub mod Listing
pub mod Lists
pub mod ListingLaws
pub mod Whole
pub mod ListingVectors
