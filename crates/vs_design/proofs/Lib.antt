pub mod Drivers
mod ExtentLemmas
pub mod FormLemmas
pub mod InOrderLemmas
mod Kept
pub mod LoopLemmas
mod PlanesLemmas
mod Quick
pub mod StatementLemmas
pub mod Stores
pub mod Tables
pub mod UsesLemmas
