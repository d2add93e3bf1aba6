pub mod Policy
pub mod Proposals
pub mod Told
pub mod RootLaws
pub mod RankLaws
pub mod KeyLaws
pub mod Ties
