-- The continuous assignments of a state are those of its design.
use Rattle.std.specs.Prelude.{ℕ, ◌≡◌, Some, List, length, slice_get}
use Rattle.vs_design.specs.vs_logic4.specs.declared.digit.Digit.{Digit}
use Rattle.vs_design.specs.declared.design.Assign.{Assign}
use Rattle.vs_design.specs.Parts.{Parts}
use Rattle.vs_run_active.specs.vs_process.specs.States.{AssignState}

-- a continuous assignment in a state is the one of a number in a design, and a value that waits to be written has as many digits as its target
pub record IsAssign (d : Parts) (j : ℕ) (x : AssignState) : Type 0 where
  pub assign : Assign
  pub at : slice_get d.assigns j ≡ Some assign
  pub target : assign.target ≡ x.target
  pub source : assign.source ≡ x.source
  pub fits : (v : List Digit) → x.pending ≡ Some v → length v ≡ x.target.width

-- so is each of some
pub record AreAssigns (d : Parts) (xs : List AssignState) : Type 0 where
  pub each : (j : ℕ) (x : AssignState) → slice_get xs j ≡ Some x → IsAssign d j x
