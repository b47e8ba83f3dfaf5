use Rattle.std.proofs.Common.{arith}
use Rattle.std.proofs.lemmas.Result.{err_from_is_err_and}
use Rattle.vs_widths.specs.Expressions.{meant}
use Rattle.vs_widths.specs.Names.{meaning_of}
use Rattle.vs_elab_statements.proofs.CaseLemmas.{selector_found, label_refused, label_one, label_all}
use Rattle.vs_elab_statements.proofs.cases.case_shape.Goals as goal

pub returns-in_err-all : goal.returns-in_err-all
returns-in_err-all c =
    let p = err_from_is_err_and c.from_residual.result c.from_residual.ensures.1 in
    rw (p.1, p.2) (selector_found (meaning_of c.args.names.now) c.args.e.now c.args.items.now c.in_err-all.field-0.0 c.in_err-all.ensures.fault)

pub returns-in_err-all-2 : goal.returns-in_err-all-2
returns-in_err-all-2 c =
    let p = err_from_is_err_and c.from_residual-in_err-all-2.result c.from_residual-in_err-all-2.ensures.1 in
    rw (p.1, p.2) (label_refused (meaning_of c.args.names.now) c.args.e.now c.args.items.now c.loop-label.label-index c.loop-label-item.result c.loop-label.all c.in_err-all-2.field-0.0 (omega arith) c.loop-label-item.is c.loop-label.invariant c.in_err-all-2.ensures)

pub loop-label-preserved : goal.loop-label-preserved
loop-label-preserved c =
    label_one (meaning_of c.args.names.now) (meant (meaning_of c.args.names.now) c.args.e.now).finding c.args.items.now c.loop-label.label-index c.loop-label-item.result c.loop-label.all c.in_ok-all-2.all (omega arith) c.loop-label-item.is c.loop-label.invariant
    c.in_ok-all-2.ensures

pub returns : goal.returns
returns c = label_all (meaning_of c.args.names.now) c.args.e.now c.args.items.now c.loop-label.label-index c.loop-label.all (omega arith) c.loop-label.invariant
