pub mod ActiveLemmas
pub mod LeavingLemmas
pub mod RunLemmas
pub mod UpdateLemmas
mod ScriptLemmas
mod StartLemmas
pub mod MarkingLemmas
pub mod RegionLemmas
pub mod SnapshotLemmas
pub mod RunsLemmas
pub mod ShowsLemmas
pub mod RunPointLemmas
