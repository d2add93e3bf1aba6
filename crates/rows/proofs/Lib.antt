pub mod TableLaws
pub mod RefusalLaws
