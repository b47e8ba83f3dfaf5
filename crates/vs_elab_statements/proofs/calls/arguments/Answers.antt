use Rattle.std.proofs.Common.{arith}
use Rattle.std.proofs.lemmas.Result.{err_from_is_err_and}
use Rattle.vs_widths.specs.Names.{meaning_of}
use Rattle.vs_elab_statements.proofs.CallLemmas.{arguments_none, arguments_more, arguments_all, argument_refused}
use Rattle.vs_elab_statements.proofs.calls.arguments.Goals as goal

pub loop-one-init : goal.loop-one-init
loop-one-init c = arguments_none (meaning_of c.args.names.now) c.in_ok-done.done.items c.in_ok-done.ensures.items

pub returns-in_err-value : goal.returns-in_err-value
returns-in_err-value c =
    let p = err_from_is_err_and c.from_residual-in_err-value.result c.from_residual-in_err-value.ensures.1 in
    rw (p.1, p.2) (argument_refused (meaning_of c.args.names.now) c.args.all.now c.loop-one.one-index c.one-item.result c.in_err-value.field-0.0 (omega arith) c.one-item.is c.in_err-value.ensures)

pub loop-one-preserved : goal.loop-one-preserved
loop-one-preserved c =
    arguments_more (meaning_of c.args.names.now) c.args.all.now c.loop-one.one-index c.one-item.result c.loop-one.done.items _ c.in_ok-value.value (omega arith) c.one-item.is c.in_ok-push.ensures.items c.loop-one.invariant c.in_ok-value.ensures

pub returns : goal.returns
returns c = arguments_all (meaning_of c.args.names.now) c.args.all.now c.loop-one.one-index _ (omega arith) c.loop-one.invariant
