pub mod Host
pub mod VerdictLaws
