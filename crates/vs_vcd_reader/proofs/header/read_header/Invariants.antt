use Rattle.std.proofs.Common.{length}
use Rattle.vs_vcd_reader.specs.Headers.{IsBegun}
use Rattle.vs_vcd_reader.proofs.header.read_header.Given as goal

abbrev pub invariant-loop-header : goal.invariant-loop-header
invariant-loop-header l = IsBegun l.fn.text l.header l.rest

abbrev pub decreases-loop-header : goal.decreases-loop-header
decreases-loop-header l = length l.rest
