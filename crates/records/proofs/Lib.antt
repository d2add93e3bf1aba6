pub mod RecordsLaws
pub mod CopyLaws
