use Rattle.std.proofs.Common.{◌∙◌}
use Rattle.vs_vcd_writing.proofs.Sinking.{taken_cut, unfailed}
use Rattle.vs_vcd_writing.proofs.sink.write_all.Goals as goal

pub loop-rest-preserved : goal.loop-rest-preserved
loop-rest-preserved g c = record {
  taken = taken_cut _ _ _ _ _ _ c.loop-rest.invariant.taken c.in-Ok.ensures.bytes;
  failed = unfailed _ _ _ _ c.if-taken-gt0.true c.in-Ok.ensures.failures ∙ c.loop-rest.invariant.failed;
}
