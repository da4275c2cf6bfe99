pub mod Maps
pub mod ListingTexts
pub mod Listings
pub mod ListingRows
pub mod MapRows
pub mod ListExcluded
pub mod CodeListExcluded
