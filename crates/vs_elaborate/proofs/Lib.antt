pub mod MarkLemmas
pub mod CheckLemmas
pub mod PortLemmas
pub mod FillingLemmas
pub mod SignalLemmas
pub mod WellFormedLemmas
pub mod OutlineLemmas
pub mod PartLemmas
pub mod DriverLemmas
pub mod SoundLemmas
pub mod MadeLemmas
pub mod BlockLemmas
pub mod ScaleLemmas
mod NameLemmas
mod OtherLemmas
mod GoodNameLemmas
mod GoodPieceLemmas
mod GoodScopeLemmas
mod GoodTextLemmas
mod ItselfLemmas
mod LayerLemmas
mod OneLineLemmas
mod OneLineTextLemmas
pub mod PairLemmas
mod SameDesignLemmas
mod SameEventLemmas
mod SameInnerLemmas
mod SameNetLemmas
mod SameParameterLemmas
mod SamePieceLemmas
mod SamePortLemmas
mod SameScopeLemmas
pub mod SameStatementLemmas
mod SameTargetLemmas
mod SameTypedLemmas
mod TokenLemmas
