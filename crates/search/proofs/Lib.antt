pub mod CallLaws
pub mod ScanLaws
pub mod ToldLaws
pub mod EarlierForms
pub mod EarlierSteps
