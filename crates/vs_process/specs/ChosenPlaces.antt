-- Places of assignments that indices choose, with their indices resolved.
use Rattle.std.specs.Prelude.{ℕ, ℤ, ◌≡◌, pos, false, List, [], ◌∷◌}
use Rattle.std.specs.List.{All}
use Rattle.vs_design.specs.vs_logic4.specs.declared.digit.Digit.{Digit}
use Rattle.vs_design.specs.vs_logic4.specs.Vectors.{resized}
use Rattle.vs_design.specs.declared.signal.Signal.{Signal}
use Rattle.vs_design.specs.declared.statement.Target.{Target}
use Rattle.vs_design.specs.declared.write.Part.{Part}
use Rattle.vs_design.specs.InOrder.{IsStoreOf}
use Rattle.vs_design.specs.Selects.{from_zero, place_of}
use Rattle.vs_design.specs.Stores.{Store}
use Rattle.vs_design.specs.Writes.{Write}
use Rattle.vs_eval.specs.Meant.{Meaning}
use Rattle.vs_eval.specs.Targets.{assigned}
use Rattle.vs_eval.specs.Values.{value_of}
use Rattle.vs_process.specs.declared.chosen_place.ChosenPlace.{ChosenPlace}
use Rattle.vs_process.specs.declared.chosen_place.Index.{Index}
use Rattle.vs_process.specs.declared.chosen_place.Index.TheVariants as i

-- the number of the lowest of so many elements that an index chooses, in a store at a time
abbrev pub chosen_by : Index → ℕ → Store → ℕ → ℤ
chosen_by (i.Constant place) width store time = place
chosen_by (i.Variable axis e) width store time = place_of axis width (value_of e.expression store time)

-- the word that the first of two indices chooses
abbrev pub chosen_word : List Index → Store → ℕ → ℤ
chosen_word [] store time = pos 0
chosen_word (x ∷ xs) store time = chosen_by x 1 store time

-- the lowest of so many bits that the second one chooses
abbrev pub chosen_low : List Index → ℕ → Store → ℕ → ℤ
chosen_low [] width store time = pos 0
chosen_low (x ∷ []) width store time = pos 0
chosen_low (x ∷ y ∷ ys) width store time = chosen_by y width store time

-- the part of a write that gives a place these digits, its indices read in the store before (clause 9.2)
abbrev pub chosen_part : ChosenPlace → List Digit → Store → ℕ → Part
chosen_part p digits store time = record {
  signal = p.signal;
  word = from_zero (chosen_word p.indices.items store time);
  low = chosen_low p.indices.items p.width store time;
  digits = digits;
}

-- the write of it alone
abbrev pub chosen_write : ChosenPlace → List Digit → Store → ℕ → Write
chosen_write p digits store time = chosen_part p digits store time ∷ []

-- what the place gets of a resolved expression (clause 5.4.1)
abbrev pub chosen_value : ChosenPlace → Meaning → Store → ℕ → List Digit
chosen_value p r store time = resized false p.width (value_of r.expression store time)

-- an index is one of a design with these signals
abbrev pub IsIndexIn : List Signal → Index → Type 0
IsIndexIn signals (i.Constant place) = Unit {0}
IsIndexIn signals (i.Variable axis e) = e.signals ≡ signals

-- so are those of a place
abbrev pub IsChosenIn : List Signal → ChosenPlace → Type 0
IsChosenIn signals p = All (IsIndexIn signals) p.indices.items

-- a store is one of an index's design
abbrev pub IsReadIn : Index → Store → Type 0
IsReadIn (i.Constant place) store = Unit {0}
IsReadIn (i.Variable axis e) store = IsStoreOf e.signals store

-- so is it of the indices of a place
abbrev pub AreReadIn : ChosenPlace → Store → Type 0
AreReadIn p store = All (λ x. IsReadIn x store) p.indices.items

-- what a target gets of a value is written to the place, in every store and at all times (clauses 5.4.1 and 6)
abbrev pub WritesChosen : Target → ChosenPlace → Type 0
WritesChosen t p = (digits : List Digit) (store : Store) (time : ℕ) →
    assigned t (resized false t.width digits) store time ≡ chosen_write p (resized false p.width digits) store time

-- the place is that of a target
pub record IsChosenOf (signals : List Signal) (t : Target) (p : ChosenPlace) : Type 0 where
  pub inside : IsChosenIn signals p
  pub writes : WritesChosen t p
