-- Traces: what is compared of two executions, and what a value change dump shows of one.
use Rattle.std.specs.Prelude.{◌≡◌, ℕ, ◌+◌, ◌<◌, ◌^◌, Option, List, [], ◌∷◌, if◌then◌else◌}
use Rattle.std.specs.Str.{bytes_eq}
use Rattle.vs_design.specs.Stores.{Store}

-- a line of a call of `$display` or `$strobe`, and the process that made the call (clauses 17.1.1 and 17.1.2)
pub record Line : Type 0 where
  pub by : ℕ
  pub text : List ℕ

-- a time slot that ended: its time in ticks, the store at its end, and the lines of its strobe calls (clauses 11.3 and 17.1.2)
pub record Slot : Type 0 where
  pub time : ℕ
  pub store : Store
  pub lines : List Line

-- the slots that ended, the earliest first, and the time of the slot in which `$finish` took effect (clause 17.4.1)
pub record Trace : Type 0 where
  pub slots : List Slot
  pub finish : Option ℕ

-- how often a text stands among lines
abbrev pub times_in : List ℕ → List Line → ℕ
times_in text [] = 0
times_in text (l ∷ ls) = if bytes_eq l.text text then 1 + times_in text ls else times_in text ls

-- two slots are the same: time, store, and each line as often, whatever the order (profile)
pub record SameSlot (a b : Slot) : Type 0 where
  pub time : a.time ≡ b.time
  pub store : a.store ≡ b.store
  pub lines : (text : List ℕ) → times_in text a.lines ≡ times_in text b.lines

abbrev pub SameSlots : List Slot → List Slot → Type 0
SameSlots [] [] = Unit {0}
SameSlots (a ∷ as') (b ∷ bs) = SameSlot a b × SameSlots as' bs
SameSlots _ _ = ⊥

-- two traces are the same: their slots, one after another, and how they end (profile)
pub record SameTrace (a b : Trace) : Type 0 where
  pub slots : SameSlots a.slots b.slots
  pub finish : a.finish ≡ b.finish

-- slots at rising times of 64 bits after a time
abbrev pub AreRisingAfter : ℕ → List Slot → Type 0
AreRisingAfter time [] = Unit {0}
AreRisingAfter time (s ∷ ss) = (time < s.time) × (s.time < 2 ^ 64) × AreRisingAfter s.time ss

-- slots at rising times of 64 bits
abbrev pub AreRising : List Slot → Type 0
AreRising [] = Unit {0}
AreRising (s ∷ ss) = (s.time < 2 ^ 64) × AreRisingAfter s.time ss
