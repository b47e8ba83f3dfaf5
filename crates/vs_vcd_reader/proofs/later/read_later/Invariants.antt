use Rattle.std.proofs.Common.{◌≡◌, length}
use Rattle.vs_vcd_reader.specs.Bodies.{AreLast}
use Rattle.vs_vcd_reader.proofs.later.read_later.Given as goal

abbrev pub invariant-loop-rest : goal.invariant-loop-rest
invariant-loop-rest l = record {
  some : AreLast l.fn.widths l.fn.text l.fn.values.items l.values.items l.last l.bare l.fn.moments.items l.moments.items l.rest;
  sizes : length l.values.items ≡ length l.fn.widths;
}

abbrev pub decreases-loop-rest : goal.decreases-loop-rest
decreases-loop-rest l = length l.rest
