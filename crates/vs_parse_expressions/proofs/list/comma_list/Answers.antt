use Rattle.std.proofs.lemmas.Result.{err_from_is_err_and}
use Rattle.vs_syntax.specs.vs_lexer.specs.declared.token.Mark.TheVariants as m
use Rattle.vs_syntax.specs.Grammar.{◌·◌, mark}
use Rattle.vs_syntax.specs.Reading.{stuck_first, stuck_second}
use Rattle.std.specs.Prelude.{map}
use Rattle.vs_syntax.specs.Views.{comma_list_tree}
use Rattle.vs_parse_expressions.specs.Answers.{seen, ReadsTree}
use Rattle.vs_parse_expressions.proofs.Exits.{fails_by}
use Rattle.vs_parse_expressions.specs.Lists.{comma_tail}
use Rattle.vs_parse_expressions.proofs.ListsLists.{listed_read, pushed_one}
use Rattle.vs_parse_expressions.proofs.Parts.{ended_as}
use Rattle.vs_parse_expressions.proofs.list.comma_list.Goals as goal

pub returns-in_err-first : goal.returns-in_err-first
returns-in_err-first g c =
    let p = err_from_is_err_and c.from_residual.result c.from_residual.ensures.1 in
    rw (p.1, p.2) (fails_by g.T.Element.grammar (g.T.Element.grammar · comma_tail g.T.Element.grammar · mark m.Semicolon) c.args.depth c.args.depth (seen c.args.tokens.now) (seen c.args.tokens.now)
    (λ deep at s. stuck_first s)
    c.in_err-first.field-0.0 c.in_err-first.ensures)

pub returns-in_err-all : goal.returns-in_err-all
returns-in_err-all g c =
    let p = err_from_is_err_and c.from_residual-in_err-all.result c.from_residual-in_err-all.ensures.1 in
    rw (p.1, p.2) (fails_by (comma_tail g.T.Element.grammar) (g.T.Element.grammar · comma_tail g.T.Element.grammar · mark m.Semicolon) c.args.depth c.args.depth (seen c.in_ok-first.first.rest.now) (seen c.args.tokens.now)
    (λ deep at s. stuck_second c.in_ok-first.ensures (stuck_first s))
    c.in_err-all.field-0.0 c.in_err-all.ensures)

pub returns : goal.returns
returns g c =
    ended_as (λ r. ReadsTree (g.T.Element.grammar · comma_tail g.T.Element.grammar · mark m.Semicolon) c.args.depth c.args.tokens.now (λ xs. comma_list_tree (map g.T.Element.tree_of xs.items)) r) m.Semicolon c.args.depth _ c.in_ok-all.all.rest.now _
    (λ y e p. rw e (listed_read g.T.Element.grammar c.args.depth g.T.Element.tree_of _ _ _ _ _ _ _ c.in_ok-first.ensures c.in_ok-all.ensures (pushed_one _ _ _ c.in_ok-push.ensures.items c.in_ok-tree.ensures.items) p))
    (λ e p. fails_by (mark m.Semicolon) (g.T.Element.grammar · comma_tail g.T.Element.grammar · mark m.Semicolon) c.args.depth c.args.depth (seen c.in_ok-all.all.rest.now) (seen c.args.tokens.now)
    (λ deep at s. stuck_second c.in_ok-first.ensures (stuck_second c.in_ok-all.ensures.gets s)) e p)
    c.ended.ensures.tree (c.ended.ensures.mark c.args.depth)
