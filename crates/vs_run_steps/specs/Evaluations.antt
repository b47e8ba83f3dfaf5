-- What the evaluation of a continuous assignment gives, and what its update writes.
use Rattle.std.specs.Prelude.{ℕ, ◌≡◌, not, Bool, Some, List, length, slice_get}
use Rattle.vs_design.specs.vs_logic4.specs.declared.digit.Digit.{Digit}
use Rattle.vs_design.specs.declared.design.Assign.{Assign}
use Rattle.vs_design.specs.Parts.{Parts}
use Rattle.vs_design.specs.Stores.{Store, changes_nothing}
use Rattle.vs_eval.specs.Targets.{assigned}
use Rattle.vs_eval.specs.Values.{target_value}
use Rattle.vs_run_active.specs.vs_process.specs.States.{State, written}

-- the digits are the value of a continuous assignment in a store at a time, and it is told whether they would change anything (clause 6.1)
pub record IsEvaluation (d : Parts) (j : ℕ) (store : Store) (time : ℕ) (digits : List Digit) (differs : Bool) : Type 0 where
  pub value : (a : Assign) → slice_get d.assigns j ≡ Some a → digits ≡ target_value a.target a.source store time
  pub held : (a : Assign) → slice_get d.assigns j ≡ Some a → changes_nothing store (assigned a.target digits store time) ≡ not differs

-- a continuous assignment of a design has so many digits
pub record HasDigits (d : Parts) (j : ℕ) (digits : List Digit) : Type 0 where
  pub assign : Assign
  pub at : slice_get d.assigns j ≡ Some assign
  pub long : length digits ≡ assign.target.width

-- a continuous assignment is given digits
abbrev pub IsDriven : Parts → ℕ → List Digit → State → State → Type 0
IsDriven d j digits s t = (a : Assign) → slice_get d.assigns j ≡ Some a → t ≡ written s (assigned a.target digits s.store s.time)
