use Rattle.std.proofs.Common.{◌≡◌, drop}
use Rattle.vs_process.specs.Steps.{is_default}
use Rattle.vs_process.specs.Landings.{start_where}
use Rattle.vs_process.proofs.choices.start_default.Given as goal

abbrev pub invariant-loop-i : goal.invariant-loop-i
invariant-loop-i l = start_where is_default (drop l.i l.items) (drop l.i l.starts) ≡ start_where is_default l.items l.starts
