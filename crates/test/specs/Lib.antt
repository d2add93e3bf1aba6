pub mod Test
pub mod Told
pub mod Parts
pub mod TopLaws
pub mod JudgedLaws
