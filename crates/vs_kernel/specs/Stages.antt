-- How far a kernel has come.
use Rattle.std.specs.Prelude.{ℕ, ◌≡◌, Option, Some, None, List, []}
use Rattle.vs_run_regions.specs.vs_time_wheel.specs.declared.timing.Timed.{Timed}
use Rattle.vs_design.specs.Parts.{Parts}
use Rattle.vs_run_regions.specs.declared.item.Due.{Due}
use Rattle.vs_kernel.specs.declared.kernel.Status.{Status}
use Rattle.vs_kernel.specs.declared.kernel.Status.TheVariants.{Ready}

-- the design of a kernel, and whether it may run
pub record Course : Type 0 where
  pub design : Parts
  pub status : Status

-- a kernel that hasn't run keeps a queue without events, at time 0
abbrev pub KeepsQueue : {Q : Type 0} → (Q → List (Timed Due)) → (Q → ℕ) → Status → Option Q → Type 0
KeepsQueue bag clock Ready (Some queue) = (bag queue ≡ []) × (clock queue ≡ 0)
KeepsQueue bag clock Ready None = ⊥
KeepsQueue bag clock _ queue = Unit {0}
