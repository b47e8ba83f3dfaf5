use Rattle.std.proofs.lemmas.Result.{err_from_is_err_and}
use Rattle.vs_syntax.specs.Grammar.{◌·◌, mark, named_value}
use Rattle.vs_syntax.specs.Reading.{stuck_first, stuck_second}
use Rattle.vs_parser.specs.vs_parse_expressions.specs.Answers.{seen}
use Rattle.vs_parser.specs.vs_parse_expressions.proofs.Exits.{fails_by}
use Rattle.vs_syntax.specs.Derivation.{both}
use Rattle.vs_syntax.specs.Views.{constant_tree}
use Rattle.vs_parser.specs.vs_parse_expressions.specs.Parts.{Leads, marked}
use Rattle.vs_parser.specs.vs_parse_expressions.proofs.Parts.{beyond_part, beyond_behind, ended_as}
use Rattle.vs_parser.proofs.generate.named_value_until.Goals as goal

pub returns-in_err-value : goal.returns-in_err-value
returns-in_err-value c = λ a.
    let p = err_from_is_err_and c.from_residual.result c.from_residual.ensures.1 in
    rw (p.1, p.2) (fails_by named_value (named_value · mark c.args.end · a) c.args.depth c.args.depth (seen c.args.tokens.now) (seen c.args.tokens.now)
    (λ deep at s. stuck_first s)
    c.in_err-value.field-0.0 c.in_err-value.ensures)

pub returns : goal.returns
returns c = λ a.
    ended_as (λ r. Leads a (named_value · mark c.args.end · a) (λ x y. both (constant_tree x) (marked c.args.end y)) c.args.depth c.args.tokens.now r) c.args.end c.args.depth _ c.in_ok-value.value.rest.now _
    (λ y e p. rw e (beyond_behind a (mark c.args.end · a) _ _ _ c.args.depth _ _ _ (beyond_part named_value _ _ _ _ _ c.in_ok-value.ensures) (beyond_part _ _ _ _ _ _ p)))
    (λ e p. fails_by (mark c.args.end) (named_value · mark c.args.end · a) c.args.depth c.args.depth (seen c.in_ok-value.value.rest.now) (seen c.args.tokens.now)
    (λ deep at s. stuck_second c.in_ok-value.ensures (stuck_first s)) e p)
    c.ended.ensures.tree (c.ended.ensures.mark c.args.depth)
