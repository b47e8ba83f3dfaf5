use Rattle.std.proofs.Common.{arith}
use Rattle.std.proofs.lemmas.Result.{err_from_is_err_and}
use Rattle.vs_prep_macros.proofs.FormalsRead.{formal_read, formals_stop, still_more}
use Rattle.vs_prep_macros.proofs.formals.read_formals.Goals as goal

pub returns-in_err-next-clause-read : goal.returns-in_err-next-clause-read
returns-in_err-next-clause-read c =
    let p = err_from_is_err_and c.from_residual.result c.from_residual.ensures.1 in
    let known = c.loop-more.invariant.0 in
    rw (p.1, p.2) (formals_stop c.args.bytes.now known.0 c.loop-more.rest.now _ (still_more c.args.bytes.now c.loop-more.more known.0 c.loop-more.rest.now c.loop-more-test.true known.2) (c.in_err-next.ensures.read known.0 known.1))

pub loop-more-preserved : goal.loop-more-preserved
loop-more-preserved c =
    let known = c.loop-more.invariant.0 in
    let rest = c.loop-more.rest.now in
    let so = still_more c.args.bytes.now c.loop-more.more known.0 rest c.loop-more-test.true known.2 in
    let read = c.in_ok-next.ensures.read known.0 known.1 in
    ((read.0, read.1, formal_read c.args.bytes.now c.in_ok-next.next known.0 read.0 rest c.in_ok-next.after.now so read.2), omega (arith, c.in_ok-next.ensures.moves))
