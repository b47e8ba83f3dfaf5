use Rattle.std.proofs.Common.{refl, arith, false}
use Rattle.std.proofs.lemmas.Result.{err_from_is_err_and}
use Rattle.vs_syntax.specs.vs_lexer.specs.declared.token.Mark.TheVariants as m
use Rattle.std.proofs.Common.{sym, ◌∙◌}
use Rattle.vs_syntax.specs.Symbols.{any_text}
use Rattle.vs_syntax.specs.Grammar.{token, part, mark, an_argument}
use Rattle.vs_syntax.specs.Reading.{stuck_first, stuck_second}
use Rattle.vs_syntax.specs.Views.{argument_tree, print_tree}
use Rattle.vs_syntax.proofs.Gets.{gets_seq}
use Rattle.vs_parse_expressions.specs.Answers.{seen}
use Rattle.vs_parse_expressions.proofs.Exits.{fails_by}
use Rattle.vs_parse_expressions.specs.Lists.{comma_tail}
use Rattle.vs_parse_expressions.specs.Tasks.{printed}
use Rattle.vs_parse_expressions.specs.Parts.{ReadsWithin, marked}
use Rattle.vs_parse_expressions.proofs.ListsLists.{grown_none}
use Rattle.vs_parse_expressions.proofs.Parts.{ended_as}
use Rattle.vs_parse_expressions.proofs.Tasks.{listing_stuck, listing_read, listing_close, no_listing}
use Rattle.vs_parse_expressions.proofs.task.print_list.Goals as goal

pub returns-in_err-text : goal.returns-in_err-text
returns-in_err-text c =
    let p = err_from_is_err_and c.from_residual.result c.from_residual.ensures.1 in
    rw (p.1, p.2) (fails_by (token any_text) printed c.args.depth c.args.depth (seen c.args.tokens.now) (seen c.args.tokens.now)
    (λ deep at s. listing_stuck c.args.depth deep _ at (sym c.begins_text.ensures ∙ c.if-begins_text.true) (stuck_first s))
    c.in_err-text.field-0.0 (c.in_err-text.ensures c.args.depth))

pub returns-in_err-all : goal.returns-in_err-all
returns-in_err-all c =
    let p = err_from_is_err_and c.from_residual-in_err-all.result c.from_residual-in_err-all.ensures.1 in
    rw (p.1, p.2) (fails_by (comma_tail (part an_argument)) printed c.args.depth c.args.depth (seen c.in_ok-text.after.now) (seen c.args.tokens.now)
    (λ deep at s. listing_stuck c.args.depth deep _ at (sym c.begins_text.ensures ∙ c.if-begins_text.true) (stuck_second (c.in_ok-text.ensures c.args.depth) s))
    c.in_err-all.field-0.0 c.in_err-all.ensures)

pub returns-then-begins_text : goal.returns-then-begins_text
returns-then-begins_text c =
    let all = grown_none (part an_argument) c.args.depth argument_tree _ _ _ _ c.in_ok-all.ensures c.new.ensures.items in
    let begins = sym c.begins_text.ensures ∙ c.if-begins_text.true in
    ended_as (λ r. ReadsWithin print_tree (marked m.Open) printed c.args.depth c.args.tokens.now r) m.Close c.args.depth _ c.in_ok-all.all.rest.now _
    (λ y e p. rw e (record { inner = _; whole = refl; gets = listing_read c.args.depth _ _ _ _ _ begins (gets_seq (c.in_ok-text.ensures c.args.depth) all) p }))
    (λ e p. fails_by (mark m.Close) printed c.args.depth c.args.depth (seen c.in_ok-all.all.rest.now) (seen c.args.tokens.now)
    (λ deep at s. listing_close c.args.depth deep _ _ at _ begins (gets_seq (c.in_ok-text.ensures c.args.depth) all) s) e p)
    c.ended.ensures.tree (c.ended.ensures.mark c.args.depth)

pub returns : goal.returns
returns c =
    let none = no_listing c.args.depth (seen c.args.tokens.now) (sym c.begins_text.ensures ∙ c.if-begins_text.false) in
    ended_as (λ r. ReadsWithin print_tree (marked m.Open) printed c.args.depth c.args.tokens.now r) m.Close c.args.depth _ c.args.tokens.now _
    (λ y e p. rw e (record { inner = _; whole = refl; gets = gets_seq none p }))
    (λ e p. fails_by (mark m.Close) printed c.args.depth c.args.depth (seen c.args.tokens.now) (seen c.args.tokens.now) (λ deep at s. stuck_second none s) e p)
    c.ended-2.ensures.tree (c.ended-2.ensures.mark c.args.depth)
