use Rattle.std.proofs.Common.{arith}
use Rattle.vs_elab_constants.proofs.ValueLemmas.{listed_on, bound_on}
use Rattle.vs_elab_constants.proofs.evaluating.bind_constants.Goals as goal

pub loop-name-preserved : goal.loop-name-preserved
loop-name-preserved c =
    let cs = c.args.constants.now in
    let i = c.loop-name.name-index in
    let x = c.loop-name-item.result in
    record {
      constants = listed_on cs i x (omega arith) c.loop-name-item.is _ _ _ c.in_ok-push_constant.ensures c.loop-name.invariant.constants;
      known = λ outer. bound_on cs i x (omega arith) c.loop-name-item.is c.loop-name.values.known c.bind.new.names outer _ c.in_ok-bind.ensures (c.loop-name.invariant.known outer);
    }
