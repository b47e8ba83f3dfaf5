use Rattle.std.proofs.Common.{◌≡◌, length}
use Rattle.vs_vcd_writing.proofs.Sinking.{HasTaken}
use Rattle.vs_vcd_writing.proofs.sink.write_all.Given as goal

abbrev pub invariant-loop-rest : goal.invariant-loop-rest
invariant-loop-rest g l = record {
  taken : HasTaken (g.S.Sink.bytes l.initial.sink) (g.S.Sink.bytes l.sink) l.bytes l.rest;
  failed : g.S.Sink.failed l.sink ≡ g.S.Sink.failed l.initial.sink;
}

abbrev pub decreases-loop-rest : goal.decreases-loop-rest
decreases-loop-rest g l = length l.rest
