pub mod Text
pub mod Listing
pub mod TextLaws
pub mod Page
