use Rattle.std.proofs.Common.{arith}
use Rattle.std.proofs.lemmas.Result.{err_from_is_err_and}
use Rattle.vs_scopes.specs.vs_widths.specs.Findings.{Has}
use Rattle.vs_widths.specs.Names.{meaning_of}
use Rattle.vs_elab_statements.proofs.CaseLemmas.{common_one, common_refused, common_all}
use Rattle.vs_elab_statements.proofs.cases.with_exprs.Goals as goal

pub returns-in_err-all : goal.returns-in_err-all
returns-in_err-all c =
    let p = err_from_is_err_and c.from_residual.result c.from_residual.ensures.1 in
    rw (p.1, p.2) (common_refused (meaning_of c.args.names.now) (Has c.args.shape.width c.args.shape.signed) c.args.es.now c.loop-e.e-index c.e-item.result c.loop-e.all c.in_err-all.field-0.0 (omega arith) c.e-item.is c.loop-e.invariant c.in_err-all.ensures)

pub loop-e-preserved : goal.loop-e-preserved
loop-e-preserved c =
    common_one (meaning_of c.args.names.now) (Has c.args.shape.width c.args.shape.signed) c.args.es.now c.loop-e.e-index c.e-item.result c.loop-e.all c.in_ok-all.all (omega arith) c.e-item.is c.loop-e.invariant c.in_ok-all.ensures

pub returns : goal.returns
returns c = common_all (meaning_of c.args.names.now) (Has c.args.shape.width c.args.shape.signed) c.args.es.now c.loop-e.e-index c.loop-e.all (omega arith) c.loop-e.invariant
