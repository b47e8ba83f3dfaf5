use Rattle.std.proofs.Common.{◌-◌, sym, ◌∙◌, arith}
use Rattle.vs_scopes.proofs.PassLemmas.{first_placed}
use Rattle.vs_scopes.proofs.connections.placed.Goals as goal

pub returns-then-place-rest : goal.returns-then-place-rest
returns-then-place-rest c =
    c.as_ref-then-place-rest.ensures.value ∙ sym (first_placed c.args.first.now c.args.rest.now c.args.place (c.args.place - 1) c.index-rest-place.result (omega arith) (omega arith) c.index-rest-place.is)
