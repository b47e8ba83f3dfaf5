pub mod PlaceLemmas
pub mod OrderLemmas
pub mod IndexLemmas
pub mod FactLemmas
pub mod RootLemmas
pub mod MapLemmas
pub mod NameLemmas
