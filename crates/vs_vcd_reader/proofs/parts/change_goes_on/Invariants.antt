use Rattle.std.proofs.Common.{◌≤◌, ◌-◌, length}
use Rattle.vs_vcd_reader.proofs.BeginningLemmas.{AreNone}
use Rattle.vs_vcd_reader.proofs.parts.change_goes_on.Given as goal

abbrev pub invariant-loop-number : goal.invariant-loop-number
invariant-loop-number l = record {
  least : l.fn.from ≤ l.number;
  none : AreNone l.fn.widths l.fn.values l.fn.part l.fn.from l.number;
}

abbrev pub decreases-loop-number : goal.decreases-loop-number
decreases-loop-number l = length l.fn.widths - l.number
