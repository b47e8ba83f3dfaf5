pub mod Testing
pub mod Alone
pub mod Race
pub mod Carry
pub mod RiseThreads
pub mod Rise
pub mod Mirror
pub mod Lines
pub mod Kept
pub mod Certificates
pub mod Texts
pub mod RiseRules
pub mod BlockPoints
pub mod Block
pub mod RaceRules
pub mod Swap
pub mod SwapNow
pub mod SwapPoints
pub mod SwapLater
pub mod MixerPoints
pub mod Mixer
pub mod RootsPoints
pub mod Roots
pub mod LatePoints
pub mod Late
pub mod ResetsPoints
pub mod ResetsTimes
pub mod Resets
pub mod CounterexampleEdges
pub mod CounterexampleWaits
pub mod CounterexampleReads
mod Alike
mod Turned
mod Todos
mod SourceTexts
mod Steps
mod Spots
mod Trees
mod Designs
mod Named
mod Done
mod Walks
mod Cones
mod Clocks
mod Copies
mod Slots
mod SourceKept
mod KeptBlocks
mod Verdicts
