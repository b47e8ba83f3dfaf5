pub mod Words
pub mod RangeBits
pub mod Bits
pub mod ListLemmas
pub mod CopyLemmas
pub mod InverseLemmas
pub mod ConeLemmas
mod DriverLemmas
pub mod ListBasics
pub mod NameLemmas
pub mod Numbers
mod Rows
mod Tables
pub mod WalkLemmas
mod WireLemmas
mod DistinctLemmas
pub mod SignalLemmas
