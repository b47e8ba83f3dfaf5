use Rattle.std.proofs.Common.{rules, arith}
use Rattle.std.proofs.lemmas.Grind.{common_steps}
use Rattle.std.proofs.lemmas.Result.{err_from_is_err_and}
use Rattle.vs_prep_macros.proofs.BodiesRead.{so_far_none, so_far_next, so_far_ends, so_far_stops}
use Rattle.vs_prep_macros.proofs.body.read_body.Goals as goal

pub loop-body-init : goal.loop-body-init
loop-body-init c = (search (rules, so_far_none), omega arith)

pub loop-body-preserved : goal.loop-body-preserved
loop-body-preserved c = (search (rules, so_far_next), grind (arith, common_steps))

pub returns-in_err-after-clause-read : goal.returns-in_err-after-clause-read
returns-in_err-after-clause-read c =
    let p = err_from_is_err_and c.from_residual.result c.from_residual.ensures.1 in
    rw (p.1, p.2) (so_far_stops c.args.bytes.now c.loop-body.body.items c.loop-body.rest.now _ c.loop-body.invariant.0 c.in_err-after.ensures.put)

pub returns-clause-read : goal.returns-clause-read
returns-clause-read c = search (rules, so_far_ends)
