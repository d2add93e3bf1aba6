pub mod Answers
pub mod Cases
pub mod Lists
pub mod Numbers
