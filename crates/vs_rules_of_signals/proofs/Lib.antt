pub mod Here
pub mod Parts
pub mod Private
pub mod OrderLemmas
pub mod ListLemmas
pub mod RankLemmas
pub mod WriteLemmas
