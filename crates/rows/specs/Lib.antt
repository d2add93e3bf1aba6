pub mod Numbers
pub mod Judge
pub mod Refusals
pub mod Table
pub mod Told
pub mod Known
pub mod Board
pub mod JudgeLaws
