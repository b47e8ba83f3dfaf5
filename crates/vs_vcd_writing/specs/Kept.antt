-- What the writer keeps, and the changes that it makes of it: nothing that is promised rests on these but `Progress`.
use Rattle.std.specs.Prelude.{◌≡◌, ℕ, zero, suc, ◌<◌, ◌≤◌, ◌||◌, Bool, Option, Some, None, if◌then◌else◌}
use Rattle.std.specs.Prelude.{List, [], ◌∷◌, ◌++◌, codes, map, reverse}
use Rattle.vs_design.specs.vs_logic4.specs.declared.digit.Digit.{Digit}
use Rattle.vs_design.specs.vs_logic4.specs.Vectors.{same_digits}
use Rattle.vs_design.specs.Stores.{Store}
use Rattle.vs_vcd_writing.specs.declared.kept.Kept.{Kept}
use Rattle.vs_vcd_writing.specs.declared.kept.DumpChange.{DumpChange}
use Rattle.vs_vcd_writing.specs.Codes.{code}
use Rattle.vs_vcd_writing.specs.Values.{digit_character, shortened, value_change, shown_value}
use Rattle.vs_vcd_writing.specs.Text.{time_line, timed, is_written}
use Rattle.vs_vcd_writing.specs.Marks.{is_marked}

-- the numbers of the codes
abbrev pub codes_of : List Kept → List (Option ℕ)
codes_of kept = map (λ (k : Kept). k.code) kept

-- what is kept with a value in the place of that of one signal
abbrev pub with_value : List Kept → ℕ → List Digit → List Kept
with_value [] signal value = []
with_value (k ∷ ks) zero value = record { code = k.code; value = value } ∷ ks
with_value (k ∷ ks) (suc signal) value = k ∷ with_value ks signal value

-- what is kept behind changes
abbrev pub kept_after : List Kept → List DumpChange → List Kept
kept_after kept [] = kept
kept_after kept (c ∷ cs) = kept_after (with_value kept c.signal c.value) cs

-- ---- changes

-- the changes of signals one after another, where the first signal has this number
abbrev pub kept_changes : (ℕ → Kept → List DumpChange) → ℕ → List Kept → List DumpChange
kept_changes by signal [] = []
kept_changes by signal (k ∷ ks) = by signal k ++ kept_changes by (suc signal) ks

-- the change to the value of a signal in a store
abbrev pub change_to : Store → ℕ → ℕ → DumpChange
change_to store signal number = record { signal = signal; number = number; value = shown_value store signal }

-- the value of a signal in a store; none where the signal has no code
abbrev pub first_by : Store → ℕ → Option ℕ → List DumpChange
first_by store signal None = []
first_by store signal (Some number) = change_to store signal number ∷ []

abbrev pub first_change : Store → ℕ → Kept → List DumpChange
first_change store signal k = first_by store signal k.code

-- the change of a signal from a value to that in a store, where there is one; none where the signal has no code
abbrev pub later_by : Store → ℕ → List Digit → Option ℕ → List DumpChange
later_by store signal value None = []
later_by store signal value (Some number) = if same_digits value (shown_value store signal) then [] else change_to store signal number ∷ []

abbrev pub later_change : Store → ℕ → Kept → List DumpChange
later_change store signal k = later_by store signal k.value k.code

-- the changes of the signals from one number on, below another, are those from the values kept
abbrev pub AreLater : (ℕ → Kept → List DumpChange) → Store → ℕ → ℕ → Type 0
AreLater by store from to = (i : ℕ) (k : Kept) → from ≤ i → i < to → by i k ≡ later_change store i k

-- whether a signal is looked at: each is, or those whose blocks are marked
abbrev pub is_chosen : Bool → List ℕ → ℕ → Bool
is_chosen all marks signal = all || is_marked marks signal

-- the change of a signal that is looked at
abbrev pub chosen_change : Bool → List ℕ → Store → ℕ → Kept → List DumpChange
chosen_change all marks store signal k = if is_chosen all marks signal then later_change store signal k else []

-- the changes of the next slot, where this was the last time written
abbrev pub next_changes : List Kept → Option ℕ → Bool → List ℕ → Store → List DumpChange
next_changes kept None all marks store = kept_changes (first_change store) 0 kept
next_changes kept (Some last) all marks store = kept_changes (chosen_change all marks store) 0 kept

-- ---- lines

-- what stands before the code in the change to a value
abbrev pub before_code : List Digit → List ℕ
before_code (d ∷ []) = digit_character d ∷ []
before_code ds = codes "b" ++ map digit_character (shortened (reverse ds)) ++ codes " "

-- the line of a change
abbrev pub change_text : DumpChange → List ℕ
change_text c = value_change c.value (code c.number)

abbrev pub change_texts : List DumpChange → List (List ℕ)
change_texts changes = map change_text changes

-- the lines of the next slot by those of its changes, where this was the last time written
abbrev pub slot_lines : Option ℕ → ℕ → List (List ℕ) → List (List ℕ)
slot_lines None time lines = time_line time ∷ codes "$dumpvars" ∷ lines ++ codes "$end" ∷ []
slot_lines (Some last) time lines = timed time lines

-- the last time written after the next slot
abbrev pub slot_time : Option ℕ → ℕ → List (List ℕ) → ℕ
slot_time None time lines = time
slot_time (Some last) time lines = if is_written (timed time lines) then time else last

-- the lines of the next slot
abbrev pub next_kept : List Kept → Option ℕ → Bool → List ℕ → ℕ → Store → List (List ℕ)
next_kept kept last all marks time store = slot_lines last time (change_texts (next_changes kept last all marks store))

-- the last time written after the next slot
abbrev pub time_kept : List Kept → Option ℕ → Bool → List ℕ → ℕ → Store → ℕ
time_kept kept last all marks time store = slot_time last time (change_texts (next_changes kept last all marks store))
