-- Laws of executions.
use Rattle.std.specs.Prelude.{ℕ, ◌≡◌, ◌<◌, ◌^◌, All, Some, List, length, slice_get}
use Rattle.vs_design.specs.vs_logic4.specs.declared.digit.Digit.{Digit}
use Rattle.vs_design.specs.declared.signal.Signal.{Signal}
use Rattle.vs_design.specs.Parts.{Parts}
use Rattle.vs_design.specs.Stores.{Store, word_of}
use Rattle.vs_design.specs.Traces.{Slot, AreRising}
use Rattle.vs_process.specs.declared.moves.Grain.{Grain}
use Rattle.vs_process.specs.declared.moves.Move.{Move}
use Rattle.vs_process.specs.Executions.{after, Legal, slots, trace}

-- the slots of an execution's trace to a moment end at rising times of 64 bits
abbrev pub TimesRise : Type 0
TimesRise = (grain : Grain) (d : Parts) (moves : List Move) (until : ℕ) → Legal grain d moves → until < 2 ^ 62 → AreRising (trace d moves until).slots

-- a store has every word of every signal of a design, and each has its signal's size (clauses 4.3.1 and 4.9)
abbrev pub IsStoreOf : Parts → Store → Type 0
IsStoreOf d store =
    (signal word : ℕ) (s : Signal) → slice_get d.signals signal ≡ Some s → word < s.count →
    (digits : List Digit) × (word_of store signal word ≡ Some digits) × (length digits ≡ s.width)

-- the store of each state that moves lead to, and that at the end of each slot, is one of the design
pub record StoresAreSized : Type 0 where
  pub states : (d : Parts) (moves : List Move) → IsStoreOf d (after d moves).store
  pub slots : (d : Parts) (moves : List Move) → All (λ (s : Slot). IsStoreOf d s.store) (slots d moves)
