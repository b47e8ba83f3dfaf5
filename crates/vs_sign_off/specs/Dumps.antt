-- The value change dumps of two runs of one design.
use Rattle.std.specs.Prelude.{ℕ, Option, List}
use Rattle.vs_design.specs.Parts.{Parts}
use Rattle.vs_sign_off.specs.vs_kernel.specs.Runs.{RanTo}
use Rattle.vs_sign_off.specs.vs_kernel.specs.declared.outcome.Outcome.{Outcome}
use Rattle.vs_sign_off.specs.vs_simulate.specs.Honesty.{Defines}

-- the value change dump of a run of a design to a moment, in at most so many steps, was appended to the known bytes of a sink
pub record HasDumped (d : Parts) (time steps : ℕ) (old new : Option (List ℕ)) : Type 0 where
  pub outcome : Outcome
  pub lines_old : Option (List ℕ)
  pub lines_new : Option (List ℕ)
  pub ran : RanTo d time steps outcome old new lines_old lines_new

-- two sinks have the value change dumps of two runs of the design that a source and a top define
pub record AreDumps (source top : List ℕ) (time steps : ℕ) (first_old first_new other_old other_new : Option (List ℕ)) : Type 0 where
  pub design : Parts
  pub defined : Defines source top design
  pub first : HasDumped design time steps first_old first_new
  pub other : HasDumped design time steps other_old other_new
