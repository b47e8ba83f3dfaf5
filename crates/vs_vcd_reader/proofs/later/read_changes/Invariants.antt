use Rattle.std.proofs.Common.{◌≡◌, length}
use Rattle.vs_vcd_reader.specs.Bodies.{AreSome}
use Rattle.vs_vcd_reader.proofs.later.read_changes.Given as goal

abbrev pub invariant-loop-rest : goal.invariant-loop-rest
invariant-loop-rest l = record {
  some : AreSome l.fn.widths l.fn.text l.fn.values l.values l.changes.items l.from l.rest;
  sizes : length l.values ≡ length l.fn.widths;
}

abbrev pub decreases-loop-rest : goal.decreases-loop-rest
decreases-loop-rest l = length l.rest
