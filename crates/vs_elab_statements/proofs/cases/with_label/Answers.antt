use Rattle.std.proofs.lemmas.Result.{err_from_is_err_and}
use Rattle.vs_scopes.specs.vs_widths.specs.Findings.{Has}
use Rattle.vs_widths.specs.Names.{meaning_of}
use Rattle.vs_elab_statements.proofs.CaseLemmas.{first_refused}
use Rattle.vs_elab_statements.proofs.cases.with_label.Goals as goal

pub returns-in_err-first-in-Expressions : goal.returns-in_err-first-in-Expressions
returns-in_err-first-in-Expressions c =
    let p = err_from_is_err_and c.from_residual.result c.from_residual.ensures.1 in
    rw (p.1, p.2, c.in-Expressions.is) (first_refused (meaning_of c.args.names.now) (Has c.args.shape.width c.args.shape.signed) c.in-Expressions.first c.in-Expressions.others.items c.in_err-first-in-Expressions.field-0.0 c.in_err-first-in-Expressions.ensures)
