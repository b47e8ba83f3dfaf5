-- What a design consists of.
use Rattle.std.specs.Prelude.{List}
use Rattle.vs_design.specs.declared.signal.Signal.{Signal}
use Rattle.vs_design.specs.declared.design.Assign.{Assign}
use Rattle.vs_design.specs.declared.design.Process.{Process}
use Rattle.vs_design.specs.declared.design.Entry.{Entry}
use Rattle.vs_design.specs.declared.timescale.Timescale.{Timescale}

-- the parts of a design: its time scale, signals, continuous assignments and processes in design order, and its outline of scopes and signals (clause 12)
pub record Parts : Type 0 where
  pub timescale : Timescale
  pub signals : List Signal
  pub assigns : List Assign
  pub processes : List Process
  pub outline : List Entry
