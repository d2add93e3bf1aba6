pub mod ToldLaws
pub mod ReadLaws
pub mod SpareLaws
pub mod BookLaws
pub mod WriteLaws
pub mod BackLaws
pub mod EarlierForms
pub mod EarlierBits
