-- How far a value change dump is written.
use Rattle.std.specs.Prelude.{◌≡◌, ◌⊎◌, ℕ, Bool, true, false, if◌then◌else◌}
use Rattle.std.specs.Prelude.{Option, Some, None, Result, Ok, Err, List, [], ◌∷◌, slice_get}
use Rattle.std.specs.Io.KnownBytes.{Appends}
use Rattle.vs_design.specs.Parts.{Parts}
use Rattle.vs_design.specs.Stores.{Store}
use Rattle.vs_design.specs.Traces.{Slot}
use Rattle.vs_vcd_writing.specs.declared.fault.WriterFault.{WriterFault}
use Rattle.vs_vcd_writing.specs.declared.fault.WriterFault.TheVariants.{Memory, Write}
use Rattle.vs_vcd_writing.specs.declared.kept.Kept.{Kept}
use Rattle.vs_vcd_writing.specs.Codes.{shown}
use Rattle.vs_vcd_writing.specs.CodeTables.{code_table}
use Rattle.vs_vcd_writing.specs.Values.{shown_value}
use Rattle.vs_vcd_writing.specs.Marks.{is_marked}
use Rattle.vs_vcd_writing.specs.Kept.{codes_of, is_chosen, time_kept}
use Rattle.vs_vcd_writing.specs.Sinks.{AppendsPart}
use Rattle.vs_vcd_writing.specs.Text.{text_of, is_written, first_lines, later_lines, last_time_after}

-- the store at the end of the last slot, where this store stands before them
abbrev pub last_store_after : Store → List Slot → Store
last_store_after before [] = before
last_store_after before (s ∷ ss) = last_store_after s.store ss

-- the last time written, and the store at the end of the last slot, where there is a slot
abbrev pub last_of : List ℕ → List Slot → Option (ℕ × Store)
last_of signals [] = None
last_of signals (s ∷ ss) = Some (last_time_after signals s.time s.store ss, last_store_after s.store ss)

-- the last time written
abbrev pub time_of : Option (ℕ × Store) → Option ℕ
time_of None = None
time_of (Some last) = Some last.0

-- the lines of the next slot
abbrev pub next_lines : List ℕ → Option (ℕ × Store) → ℕ → Store → List (List ℕ)
next_lines signals None time store = first_lines signals time store
next_lines signals (Some last) time store = later_lines signals last.1 time store

-- the last time written after the next slot
abbrev pub time_after : List ℕ → Option (ℕ × Store) → ℕ → Store → ℕ
time_after signals None time store = time
time_after signals (Some last) time store = if is_written (later_lines signals last.1 time store) then time else last.0

-- what one more slot adds to the slots of a design's value change dump
abbrev pub vcd_slot : Parts → List Slot → Slot → List ℕ
vcd_slot d slots s = text_of (next_lines (shown d) (last_of (shown d) slots) s.time s.store)

-- what a writer knows: of each signal the number of its code and the value written last, and the last time written
pub record Progress : Type 0 where
  pub kept : List Kept
  pub last : Option ℕ

-- of each signal that has a code the value that a store shows is kept
abbrev pub AreKept : List Kept → Store → Type 0
AreKept kept store = (i n : ℕ) (k : Kept) → slice_get kept i ≡ Some k → k.code ≡ Some n → k.value ≡ shown_value store i

-- the values at the end of the last slot are kept; before the first slot none need be
abbrev pub AreLast : List Kept → Option (ℕ × Store) → Type 0
AreLast kept None = Unit {0}
AreLast kept (Some last) = AreKept kept last.1

-- the header of the design and these slots are written
pub record HasWritten (w : Progress) (d : Parts) (slots : List Slot) : Type 0 where
  pub codes : codes_of w.kept ≡ code_table 0 d.signals
  pub last : w.last ≡ time_of (last_of (shown d) slots)
  pub values : AreLast w.kept (last_of (shown d) slots)

-- the marks cover what changed: after a slot, of each signal that has a code and whose block isn't marked the value last
-- written is that in the store
abbrev pub Covers : List ℕ → Progress → Store → Type 0
Covers marks w store = (t i n : ℕ) (k : Kept) → w.last ≡ Some t → slice_get w.kept i ≡ Some k → k.code ≡ Some n
    → is_marked marks i ≡ false → k.value ≡ shown_value store i

-- a writer after the next slot, at which it looked at all signals, or at those whose blocks are marked: of each signal that has
-- a code it keeps the value in the store, or it didn't look at it and keeps what it kept
pub record Follows (old new : Progress) (all : Bool) (marks : List ℕ) (t : ℕ) (store : Store) : Type 0 where
  pub codes : codes_of new.kept ≡ codes_of old.kept
  pub last : new.last ≡ Some (time_kept old.kept old.last all marks t store)
  pub values : (i n : ℕ) (k : Kept) → slice_get new.kept i ≡ Some k → k.code ≡ Some n
      → (k.value ≡ shown_value store i) ⊎ ((is_chosen all marks i ≡ false) × (slice_get old.kept i ≡ Some k))

-- the slot has this time and this store
pub record IsSlotAt (s : Slot) (t : ℕ) (store : Store) : Type 0 where
  pub time : s.time ≡ t
  pub values : s.store ≡ store

-- whether a call failed because the sink did
abbrev pub is_write_fault : {A : Type 0} → Result A WriterFault → Bool
is_write_fault (Ok x) = false
is_write_fault (Err Memory) = false
is_write_fault (Err Write) = true

-- what a call that writes a piece did to the known bytes: appended it; without memory nothing; where the sink failed
-- appended a beginning of it
abbrev pub WritesPiece : {A : Type 0} → Result A WriterFault → Option (List ℕ) → Option (List ℕ) → List ℕ → Type 0
WritesPiece (Ok x) old new piece = Appends old new piece
WritesPiece (Err Memory) old new piece = new ≡ old
WritesPiece (Err Write) old new piece = AppendsPart old new piece
