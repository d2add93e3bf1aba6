pub mod Audit
pub mod Told
