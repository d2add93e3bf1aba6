pub mod TestLaws
pub mod PartsLaws
pub mod ToldLaws
pub mod EarlierForms
