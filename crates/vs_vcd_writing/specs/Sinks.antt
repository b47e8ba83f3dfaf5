-- Sinks: what a text is written to.
use Rattle.std.specs.Prelude.{ℕ, ◌+◌, ◌-◌, ◌^◌, ◌==◌, ◌&&◌, not, min, Bool, true, if◌then◌else◌}
use Rattle.std.specs.Prelude.{Option, Result, Ok, Err, List, length, take}
use Rattle.std.specs.Io.KnownBytes.{Appends}

-- a count of 64 bits that rises by one and stays at its last value (profile)
abbrev pub one_more : ℕ → ℕ
one_more count = min (count + 1) (2 ^ 64 - 1)

-- whether a write failed, or took no byte of a piece that wasn't empty
abbrev pub is_failure : {E : Type 0} → Result ℕ E → List ℕ → Bool
is_failure (Ok taken) piece = taken == 0 && not (length piece == 0)
is_failure (Err error) piece = true

-- a count of failures after a call that had one of them, or none
abbrev pub failed_after : Bool → ℕ → ℕ
failed_after failed count = if failed then one_more count else count

-- the known bytes grow by a beginning of these bytes, or by all of them
abbrev pub AppendsPart : Option (List ℕ) → Option (List ℕ) → List ℕ → Type 0
AppendsPart old new bytes = (n : ℕ) × Appends old new (take n bytes)
