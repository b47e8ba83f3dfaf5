use Rattle.std.proofs.Common.{arith}
use Rattle.std.proofs.lemmas.Result.{err_from_is_err_and}
use Rattle.vs_widths.specs.Names.{meaning_of}
use Rattle.vs_elab_statements.proofs.EventLemmas.{terms_first, terms_more, terms_all, term_refused}
use Rattle.vs_elab_statements.proofs.events.terms.Goals as goal

pub loop-t-init : goal.loop-t-init
loop-t-init c = terms_first (meaning_of c.args.names.now) c.args.first.now c.args.others.now c.in_ok-one.one c.in_ok-done.done.items _ c.in_ok-done.ensures.items c.in_ok-push.ensures.items c.in_ok-one.ensures

pub returns-in_err-one-2 : goal.returns-in_err-one-2
returns-in_err-one-2 c =
    let p = err_from_is_err_and c.from_residual-in_err-one-2.result c.from_residual-in_err-one-2.ensures.1 in
    rw (p.1, p.2) (term_refused (meaning_of c.args.names.now) c.args.first.now c.args.others.now c.loop-t.t-index c.loop-t-item.result c.in_err-one-2.field-0.0 (omega arith) c.loop-t-item.is c.in_err-one-2.ensures)

pub loop-t-preserved : goal.loop-t-preserved
loop-t-preserved c =
    terms_more (meaning_of c.args.names.now) c.args.first.now c.args.others.now c.loop-t.t-index c.loop-t-item.result c.loop-t.done.items _ c.in_ok-one-2.one (omega arith) c.loop-t-item.is c.in_ok-push-2.ensures.items c.loop-t.invariant
    c.in_ok-one-2.ensures

pub returns : goal.returns
returns c = terms_all (meaning_of c.args.names.now) c.args.first.now c.args.others.now c.loop-t.t-index _ (omega arith) c.loop-t.invariant
