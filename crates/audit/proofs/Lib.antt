pub mod GroupLaws
pub mod OrderLaws
pub mod AuditLaws
pub mod ToldLaws
