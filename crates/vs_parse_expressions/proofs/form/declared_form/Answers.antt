use Rattle.std.proofs.lemmas.Result.{err_from_is_err_and}
use Rattle.vs_syntax.specs.Grammar.{nothing, ◌or◌, form, range}
use Rattle.vs_syntax.specs.Reading.{stuck_second}
use Rattle.vs_syntax.proofs.Gets.{gets_seq}
use Rattle.vs_parse_expressions.specs.Answers.{seen}
use Rattle.vs_parse_expressions.proofs.Exits.{fails_by}
use Rattle.vs_parse_expressions.proofs.form.declared_form.Goals as goal

pub returns-in_err-range : goal.returns-in_err-range
returns-in_err-range c =
    let p = err_from_is_err_and c.from_residual.result c.from_residual.ensures.1 in
    rw (p.1, p.2) (fails_by (range or nothing) form c.args.depth c.args.depth (seen c.signed_at-signed.result.1.now) (seen c.args.tokens.now)
    (λ deep at s. stuck_second (c.signed_at-signed.ensures c.args.depth) s)
    c.in_err-range.field-0.0 c.in_err-range.ensures)

pub returns : goal.returns
returns c = gets_seq (c.signed_at-signed.ensures c.args.depth) c.in_ok-range.ensures
