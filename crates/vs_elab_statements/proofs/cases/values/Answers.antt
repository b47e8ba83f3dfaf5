use Rattle.std.proofs.Common.{arith}
use Rattle.std.proofs.lemmas.Result.{err_from_is_err_and}
use Rattle.vs_widths.specs.Names.{meaning_of}
use Rattle.vs_elab_statements.proofs.CaseLemmas.{values_first, values_more, values_all, value_refused}
use Rattle.vs_elab_statements.proofs.cases.values.Goals as goal

pub loop-e-init : goal.loop-e-init
loop-e-init c =
    values_first (meaning_of c.args.names.now) c.args.shape.width c.args.shape.signed c.args.first.now c.args.others.now c.in_ok-one.one c.in_ok-done.done.items _ c.in_ok-done.ensures.items c.in_ok-push.ensures.items c.in_ok-one.ensures.typed

pub returns-in_err-one-2 : goal.returns-in_err-one-2
returns-in_err-one-2 c =
    let p = err_from_is_err_and c.from_residual-in_err-one-2.result c.from_residual-in_err-one-2.ensures.1 in
    rw (p.1, p.2) (value_refused (meaning_of c.args.names.now) c.args.first.now c.args.others.now c.loop-e.e-index c.e-item.result c.in_err-one-2.field-0.0 (omega arith) c.e-item.is c.in_err-one-2.ensures.fault)

pub loop-e-preserved : goal.loop-e-preserved
loop-e-preserved c =
    values_more (meaning_of c.args.names.now) c.args.shape.width c.args.shape.signed c.args.first.now c.args.others.now c.loop-e.e-index c.e-item.result c.loop-e.done.items _ c.in_ok-one-2.one (omega arith) c.e-item.is c.in_ok-push-2.ensures.items c.loop-e.invariant
    c.in_ok-one-2.ensures.typed

pub returns : goal.returns
returns c = values_all (meaning_of c.args.names.now) c.args.shape.width c.args.shape.signed c.args.first.now c.args.others.now c.loop-e.e-index _ (omega arith) c.loop-e.invariant
