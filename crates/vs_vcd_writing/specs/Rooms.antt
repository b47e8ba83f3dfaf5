-- Room to compare in: nothing that is promised rests on these.
use Rattle.std.specs.Prelude.{◌≡◌, ℕ, ◌<◌, ◌≤◌, Bool, Some, List, length, slice_get, slice_index}
use Rattle.vs_design.specs.vs_logic4.specs.declared.digit.Digit.{Digit}
use Rattle.vs_design.specs.vs_logic4.specs.Vectors.{same_digits}
use Rattle.vs_design.specs.Stores.{Store}
use Rattle.vs_vcd_writing.specs.declared.kept.Kept.{Kept}
use Rattle.vs_vcd_writing.specs.declared.room.LineRoom.{LineRoom}
use Rattle.vs_vcd_writing.specs.Values.{shown_value}
use Rattle.vs_vcd_writing.specs.Planes.{are_same}

-- room for so many signals
pub record IsRoom (r : LineRoom) (count : ℕ) : Type 0 where
  pub words : length r.words ≡ count
  pub widths : length r.widths.items ≡ count
  pub values : length r.values.items ≡ count
  pub unknowns : length r.unknowns.items ≡ count

-- whether no flag of a signal is set
abbrev pub is_same : LineRoom → ℕ → Bool
is_same r signal = are_same (slice_index r.widths.items signal) (slice_index r.values.items signal) (slice_index r.unknowns.items signal)

-- of a signal the word and the flags are those of a value that was written last and of a value now
pub record IsCompared (r : LineRoom) (signal : ℕ) (old new : List Digit) : Type 0 where
  pub word : slice_get r.words signal ≡ Some new
  pub same : is_same r signal ≡ same_digits old new

-- of the signals from one number on, below another, they are those of what is kept and of a store
abbrev pub AreCompared : LineRoom → List Kept → Store → ℕ → ℕ → Type 0
AreCompared r kept store from to = (i : ℕ) (k : Kept) → from ≤ i → i < to → slice_get kept i ≡ Some k → IsCompared r i k.value (shown_value store i)
