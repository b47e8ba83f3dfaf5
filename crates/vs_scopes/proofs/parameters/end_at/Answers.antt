use Rattle.std.proofs.Common.{sym, arith}
use Rattle.vs_scopes.proofs.PassLemmas.{first_map}
use Rattle.vs_scopes.proofs.parameters.end_at.Goals as goal

pub returns-then-place-ends : goal.returns-then-place-ends
returns-then-place-ends c = sym (first_map c.args.ends.now c.args.place c.index-ends-place.result (omega arith) c.index-ends-place.is)
