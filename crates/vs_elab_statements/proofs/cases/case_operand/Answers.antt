use Rattle.std.proofs.Common.{map}
use Rattle.std.proofs.lemmas.Result.{err_from_is_err_and}
use Rattle.vs_widths.specs.Names.{meaning_of}
use Rattle.vs_elab_statements.proofs.CaseLemmas.{selector_refused}
use Rattle.vs_elab_statements.proofs.cases.case_operand.Goals as goal

pub returns-in_err-value : goal.returns-in_err-value
returns-in_err-value c =
    let p = err_from_is_err_and c.from_residual-in_err-value.result c.from_residual-in_err-value.ensures.1 in
    rw (p.1, p.2) (selector_refused (meaning_of c.args.names.now) c.args.e.now (map (λ x. x.0) c.args.items.now) c.in_err-value.field-0.0 c.in_err-value.ensures.fault)
