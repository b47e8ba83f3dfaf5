use Rattle.std.proofs.Common.{ap, sym, ◌∙◌}
use Rattle.std.proofs.lemmas.Result.{err_from_is_err_and}
use Rattle.vs_syntax.specs.Symbols.{first}
use Rattle.vs_parser.specs.vs_parse_expressions.specs.Answers.{seen}
use Rattle.vs_parser.proofs.Faulty as faulty
use Rattle.vs_parser.proofs.parser.whole.Goals as goal

pub returns-in_err-read : goal.returns-in_err-read
returns-in_err-read c =
    let p = err_from_is_err_and c.from_residual.result c.from_residual.ensures.1 in
    rw (p.1, p.2) (faulty.halts_by (seen c.args.tokens.now) c.in_err-read.field-0.0 c.in_err-read.ensures)

pub returns-in_default : goal.returns-in_default
returns-in_default c = faulty.derived (seen c.args.tokens.now) c.in_ok-read.read.tree c.in_ok-read.read.rest.now c.in_ok-read.ensures c.in_default.ensures

pub returns : goal.returns
returns c = faulty.left_over (seen c.args.tokens.now) (seen c.in_ok-read.read.rest.now) _ c.in_ok-read.ensures (λ e. faulty.some_class _ (sym (ap (λ u. first (seen u)) c.in-Some.ensures) ∙ e))
