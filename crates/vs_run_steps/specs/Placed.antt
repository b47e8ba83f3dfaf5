-- The evaluation of a continuous assignment that is a copy, or has another fixed place.
use Rattle.std.specs.Prelude.{ℕ, ◌≡◌, ◌==◌, not, Some, slice_get}
use Rattle.vs_design.specs.vs_logic4.specs.declared.edge.Edge.TheVariants.{Any}
use Rattle.vs_design.specs.vs_logic4.specs.Planes.{ArePlanes, digits_of_planes}
use Rattle.vs_design.specs.declared.design.Assign.{Assign}
use Rattle.vs_design.specs.Parts.{Parts}
use Rattle.vs_design.specs.Stores.{Store}
use Rattle.vs_run_active.specs.vs_process.specs.vs_eval.specs.Masks.{AreEdgesOf}
use Rattle.vs_run_steps.specs.declared.evaluation.Copied.{Copied}
use Rattle.vs_run_steps.specs.declared.evaluation.Placed.{Placed}
use Rattle.vs_run_steps.specs.Evaluations.{IsEvaluation}
use Rattle.vs_run_steps.specs.Forms.{IsPlaceOf}

-- the digits are its value, it is told whether they would change anything, and the bits are those that it drives
pub record IsPlaced (d : Parts) (j : ℕ) (store : Store) (time : ℕ) (p : Placed) : Type 0 where
  pub evaluation : IsEvaluation d j store time p.digits p.differs
  pub place : (a : Assign) → slice_get d.assigns j ≡ Some a → IsPlaceOf d.signals a.target p.spot.now

-- the new planes are those of its value, the places at which they differ from the old ones tell whether it would change anything, and the bits are those that it drives
pub record IsCopied (d : Parts) (j : ℕ) (store : Store) (time : ℕ) (c : Copied) : Type 0 where
  pub planes : ArePlanes c.spot.now.width c.change.new_value c.change.new_unknown
  pub evaluation : (differing : ℕ) → AreEdgesOf Any c.change differing →
      IsEvaluation d j store time (digits_of_planes c.spot.now.width c.change.new_value c.change.new_unknown) (not (differing == 0))
  pub place : (a : Assign) → slice_get d.assigns j ≡ Some a → IsPlaceOf d.signals a.target c.spot.now
