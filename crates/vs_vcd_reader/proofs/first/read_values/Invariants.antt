use Rattle.std.proofs.Common.{◌-◌, length}
use Rattle.vs_vcd_reader.specs.Bodies.{AreBegun}
use Rattle.vs_vcd_reader.proofs.first.read_values.Given as goal

abbrev pub invariant-loop-rest : goal.invariant-loop-rest
invariant-loop-rest l = AreBegun l.fn.widths l.fn.text l.changes.items l.rest

abbrev pub decreases-loop-rest : goal.decreases-loop-rest
decreases-loop-rest l = length l.widths - length l.changes.items
