-- Which processes the change of one word of a signal wakes.
use Rattle.std.specs.Prelude.{ℕ, Option, List, [], ◌∷◌, if◌then◌else◌}
use Rattle.vs_design.specs.vs_logic4.specs.declared.digit.Digit.{Digit}
use Rattle.vs_design.specs.Stores.{changed_at}
use Rattle.vs_process.specs.vs_eval.specs.Waking.{word_wakes}
use Rattle.vs_process.specs.Places.{Place}
use Rattle.vs_process.specs.States.{terms_of, triggered}

-- a process behind the change of one word of a signal: it becomes active where it waits for that (clause 9.7.2)
abbrev pub triggered_by : ℕ → ℕ → Option (List Digit) → Option (List Digit) → Place → Place
triggered_by signal word before behind x = if word_wakes (terms_of x) signal word before behind then triggered x else x

-- places of which those of these numbers are changed
abbrev pub changed_all : (Place → Place) → List ℕ → List Place → List Place
changed_all f [] xs = xs
changed_all f (i ∷ rest) xs = changed_all f rest (changed_at f i xs)
