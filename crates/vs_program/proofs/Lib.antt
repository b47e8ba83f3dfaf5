mod Cuts
mod Ends
mod Fails
mod Inputs
mod Proposing
mod RacingLemmas
mod Reading
mod Values
