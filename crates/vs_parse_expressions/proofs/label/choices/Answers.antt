use Rattle.std.proofs.lemmas.Result.{err_from_is_err_and}
use Rattle.vs_syntax.specs.vs_lexer.specs.declared.token.Mark.TheVariants as m
use Rattle.vs_syntax.specs.Grammar.{part, mark, a_stmt, a_case_item, an_expr}
use Rattle.vs_syntax.specs.Reading.{stuck_first, stuck_second}
use Rattle.vs_syntax.proofs.Gets.{gets_seq}
use Rattle.vs_syntax.specs.Views.{expr_tree, labelled_tree}
use Rattle.vs_parse_expressions.specs.Answers.{seen}
use Rattle.vs_parse_expressions.proofs.Exits.{fails_by}
use Rattle.vs_parse_expressions.specs.Lists.{comma_tail}
use Rattle.vs_parse_expressions.specs.Parts.{Leads}
use Rattle.vs_parse_expressions.proofs.ListsLists.{grown_none}
use Rattle.vs_parse_expressions.proofs.Parts.{ended_as}
use Rattle.vs_parse_expressions.proofs.Labels.{chosen_stuck, chosen_read}
use Rattle.vs_parse_expressions.proofs.label.choices.Goals as goal

pub returns-in_err-first : goal.returns-in_err-first
returns-in_err-first c =
    let p = err_from_is_err_and c.from_residual.result c.from_residual.ensures.1 in
    rw (p.1, p.2) (fails_by (part an_expr) (part a_case_item) c.args.depth c.args.depth (seen c.args.tokens.now) (seen c.args.tokens.now)
    (λ deep at s. chosen_stuck c.args.depth deep _ at c.requires.depth c.requires.first (stuck_first s))
    c.in_err-first.field-0.0 c.in_err-first.ensures)

pub returns-in_err-all : goal.returns-in_err-all
returns-in_err-all c =
    let p = err_from_is_err_and c.from_residual-in_err-all.result c.from_residual-in_err-all.ensures.1 in
    rw (p.1, p.2) (fails_by (comma_tail (part an_expr)) (part a_case_item) c.args.depth c.args.depth (seen c.in_ok-first.first.rest.now) (seen c.args.tokens.now)
    (λ deep at s. chosen_stuck c.args.depth deep _ at c.requires.depth c.requires.first (stuck_second c.in_ok-first.ensures (stuck_first s)))
    c.in_err-all.field-0.0 c.in_err-all.ensures)

pub returns : goal.returns
returns c =
    let all = grown_none (part an_expr) c.args.depth expr_tree _ _ _ _ c.in_ok-all.ensures c.new.ensures.items in
    ended_as (λ r. Leads (part a_stmt) (part a_case_item) labelled_tree c.args.depth c.args.tokens.now r) m.Colon c.args.depth _ c.in_ok-all.all.rest.now _
    (λ y e colon. rw e (record {
      reads = λ z at p. chosen_read c.args.depth _ at _ c.requires.first (gets_seq c.in_ok-first.ensures (gets_seq all (gets_seq colon p)));
      stops = λ deep at s. chosen_stuck c.args.depth deep _ at c.requires.depth c.requires.first (stuck_second c.in_ok-first.ensures (stuck_second all (stuck_second colon s)));
    }))
    (λ e p. fails_by (mark m.Colon) (part a_case_item) c.args.depth c.args.depth (seen c.in_ok-all.all.rest.now) (seen c.args.tokens.now)
    (λ deep at s. chosen_stuck c.args.depth deep _ at c.requires.depth c.requires.first (stuck_second c.in_ok-first.ensures (stuck_second all (stuck_first s)))) e p)
    c.ended.ensures.tree (c.ended.ensures.mark c.args.depth)
