use Rattle.std.proofs.lemmas.Result.{err_from_is_err_and}
use Rattle.vs_syntax.specs.vs_lexer.specs.declared.token.Mark.TheVariants as m
use Rattle.vs_syntax.specs.Symbols.{a_mark}
use Rattle.vs_syntax.specs.Grammar.{◌·◌, mark}
use Rattle.vs_syntax.specs.Derivation.{leaf, both}
use Rattle.vs_syntax.specs.Reading.{stuck_first, stuck_second}
use Rattle.vs_syntax.proofs.Gets.{gets_seq}
use Rattle.vs_parse_expressions.specs.Answers.{seen, ReadsTree}
use Rattle.vs_parse_expressions.proofs.Exits.{fails_by}
use Rattle.vs_parse_expressions.proofs.Parts.{ended_as}
use Rattle.vs_parser.proofs.instance.enclosed.Goals as goal

pub returns-in_err-after : goal.returns-in_err-after
returns-in_err-after g c =
    let p = err_from_is_err_and c.from_residual.result c.from_residual.ensures.1 in
    rw (p.1, p.2) (fails_by (mark m.Open) (mark m.Open · g.T.Element.grammar · mark m.Close) c.args.depth c.args.depth (seen c.args.tokens.now) (seen c.args.tokens.now)
    (λ deep at s. stuck_first s)
    c.in_err-after.field-0.0 (c.in_err-after.ensures c.args.depth))

pub returns-in_err-inside : goal.returns-in_err-inside
returns-in_err-inside g c =
    let p = err_from_is_err_and c.from_residual-in_err-inside.result c.from_residual-in_err-inside.ensures.1 in
    rw (p.1, p.2) (fails_by g.T.Element.grammar (mark m.Open · g.T.Element.grammar · mark m.Close) c.args.depth c.args.depth (seen c.in_ok-after.after.now) (seen c.args.tokens.now)
    (λ deep at s. stuck_second (c.in_ok-after.ensures c.args.depth) (stuck_first s))
    c.in_err-inside.field-0.0 c.in_err-inside.ensures)

pub returns : goal.returns
returns g c =
    ended_as (λ r. ReadsTree (mark m.Open · g.T.Element.grammar · mark m.Close) c.args.depth c.args.tokens.now (λ x. both (leaf (a_mark m.Open)) (both (g.T.Element.tree_of x) (leaf (a_mark m.Close)))) r) m.Close c.args.depth _ c.in_ok-inside.inside.rest.now _
    (λ y e p. rw e (gets_seq (c.in_ok-after.ensures c.args.depth) (gets_seq c.in_ok-inside.ensures p)))
    (λ e p. fails_by (mark m.Close) (mark m.Open · g.T.Element.grammar · mark m.Close) c.args.depth c.args.depth (seen c.in_ok-inside.inside.rest.now) (seen c.args.tokens.now)
    (λ deep at s. stuck_second (c.in_ok-after.ensures c.args.depth) (stuck_second c.in_ok-inside.ensures s)) e p)
    c.ended.ensures.tree (c.ended.ensures.mark c.args.depth)
