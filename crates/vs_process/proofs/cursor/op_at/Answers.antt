use Rattle.std.proofs.Common.{arith, refl, length, ◌-◌}
use Rattle.std.proofs.lemmas.Option.{slice_get_read}
use Rattle.vs_process.proofs.cursor.op_at.Goals as goal

pub returns : goal.returns
returns c = (
  c.args.place - 1,
  omega arith,
  slice_get_read c.args.ops.now (length c.args.ops.now) (c.args.place - 1) c.index-ops-place.result refl (omega arith) c.index-ops-place.is,
)
