-- Which continuous assignments changes of words wake.
use Rattle.std.specs.Prelude.{ℕ, ◌≡◌, ◌||◌, Bool, true, Some, is_some, List, [], ◌∷◌, map, if◌then◌else◌}
use Rattle.std.specs.List.{list_any}
use Rattle.vs_design.specs.declared.design.Assign.{Assign}
use Rattle.vs_design.specs.declared.range.BitRange.{BitRange}
use Rattle.vs_design.specs.declared.readers.Reader.{Reader}
use Rattle.vs_design.specs.Parts.{Parts}
use Rattle.vs_design.specs.Stores.{changed_at}
use Rattle.vs_design.specs.Uses.{reads}
use Rattle.vs_eval.specs.Differences.{word_changes}
use Rattle.vs_process.specs.declared.changes.Change.{Change}
use Rattle.vs_run_active.specs.vs_process.specs.States.{AssignState}

-- ---- what is woken

-- whether a continuous assignment has to be evaluated or has a value that waits to be written
abbrev pub is_left : AssignState → Bool
is_left x = x.needs || is_some x.pending

-- a continuous assignment that has to be evaluated
abbrev pub woken : AssignState → AssignState
woken x = record x { needs = true }

-- continuous assignments of which one has to be evaluated
abbrev pub woken_in : ℕ → List AssignState → List AssignState
woken_in assign xs = changed_at woken assign xs

-- continuous assignments of which those readers have to be evaluated whose range passes a test
abbrev pub all_woken : (BitRange → Bool) → List Reader → List AssignState → List AssignState
all_woken test [] xs = xs
all_woken test (r ∷ rs) xs = all_woken test rs (if test r.range then woken_in r.assign xs else xs)

-- a continuous assignment that has to be evaluated where a range that it reads passes a test
abbrev pub woken_by : (BitRange → Bool) → AssignState → AssignState
woken_by test x = record x { needs = x.needs || list_any test (reads x.source) }

-- continuous assignments that the changes of some words wake, one after another
abbrev pub woken_changes : List Change → List AssignState → List AssignState
woken_changes [] xs = xs
woken_changes (c ∷ cs) xs = woken_changes cs (map (woken_by (word_changes c.signal c.word (Some c.before) (Some c.behind))) xs)

-- ---- the continuous assignments of a design

-- continuous assignments that evaluate the same expressions as those of a design
abbrev pub AreOf : Parts → List AssignState → Type 0
AreOf d xs = map (λ (x : AssignState). x.source) xs ≡ map (λ (a : Assign). a.source) d.assigns
