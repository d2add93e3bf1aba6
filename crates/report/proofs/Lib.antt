pub mod ListingLaws
pub mod SizeLaws
pub mod PageLaws
pub mod Cases
