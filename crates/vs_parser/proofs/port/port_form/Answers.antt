use Rattle.std.proofs.lemmas.Result.{err_from_is_err_and}
use Rattle.vs_parser.proofs.PortLemmas.{form_beyond, form_fails, form_shorter}
use Rattle.vs_parser.proofs.port.port_form.Goals as goal

pub returns-in_err-form-clause-reads : goal.returns-in_err-form-clause-reads
returns-in_err-form-clause-reads c =
    let p = err_from_is_err_and c.from_residual.result c.from_residual.ensures.1 in
    rw (p.1, p.2) (form_fails c.args.depth c.args.direction _ _ _ _ c.in_err-form.field-0.0 c.requires c.optional_kind-kind.ensures c.in_err-form.ensures)

pub returns-clause-reads : goal.returns-clause-reads
returns-clause-reads c = form_beyond c.args.depth c.args.direction _ _ _ _ _ _ c.requires c.optional_kind-kind.ensures c.in_ok-form.ensures

pub returns-clause-shorter : goal.returns-clause-shorter
returns-clause-shorter c = form_shorter c.args.depth c.args.direction _ _ _ _ _ _ c.requires c.optional_kind-kind.ensures c.in_ok-form.ensures
