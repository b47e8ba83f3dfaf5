-- The slots of a calendar, as lists of events.
use Rattle.std.specs.Prelude.{◌≡◌, ℕ, ◌<◌, List, [], ◌∷◌, length, slice_index_or, Option, None, Some}
use Rattle.vs_time_wheel.specs.Busy.{flag_at}

-- the events of a slot
abbrev pub slot_at : {E : Type 0} → List (List E) → ℕ → List E
slot_at slots i = slice_index_or slots i []

-- the first of a list
abbrev pub first_of : {E : Type 0} → List E → Option E
first_of [] = None
first_of (x ∷ xs) = Some x

-- 256 slots without an event
pub record AllFree {E : Type 0} (slots : List (List E)) : Type 0 where
  pub count : length slots ≡ 256
  pub free : (i : ℕ) → slot_at slots i ≡ []

-- 1 where there is an event, else 0
abbrev pub flag_of : {E : Type 0} → List E → ℕ
flag_of [] = 0
flag_of (x ∷ xs) = 1

-- 256 slots, and for each of them a flag that says whether it has an event
pub record IsFlagged {E : Type 0} (slots : List (List E)) (flags : List ℕ) : Type 0 where
  pub count : length slots ≡ 256
  pub flagged : (i : ℕ) → i < 256 → flag_at flags i ≡ flag_of (slot_at slots i)
