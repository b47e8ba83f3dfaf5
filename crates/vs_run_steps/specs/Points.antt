-- Where a run stands.
use Rattle.std.specs.Prelude.{ℕ, Option, List}
use Rattle.vs_run_active.specs.vs_process.specs.States.{State}
use Rattle.vs_vcd_writing.specs.Progress.{Progress}

-- where a run stands: its state, the combinational block that has taken a step since its control, where there is one, the writer of its dump, where it has one, and the
-- known bytes of the sink of the dump and of that of the lines
pub record Point : Type 0 where
  pub state : State
  pub inside : Option ℕ
  pub writer : Option Progress
  pub vcd : Option (List ℕ)
  pub lines : Option (List ℕ)

abbrev pub point : Option ℕ → State → Option Progress → Option (List ℕ) → Option (List ℕ) → Point
point inside state writer vcd lines = record { state = state; inside = inside; writer = writer; vcd = vcd; lines = lines }
