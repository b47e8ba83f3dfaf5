use Rattle.std.proofs.Common.{refl}
use Rattle.std.proofs.lemmas.Result.{err_from_is_err_and}
use Rattle.vs_syntax.specs.vs_lexer.specs.declared.token.Mark.TheVariants as m
use Rattle.vs_syntax.specs.Grammar.{part, mark, a_dump_argument}
use Rattle.vs_syntax.specs.Reading.{stuck_first, stuck_second}
use Rattle.vs_syntax.specs.Views.{dump_argument_tree, dump_tree}
use Rattle.vs_syntax.proofs.Gets.{gets_seq}
use Rattle.vs_parse_expressions.specs.Answers.{seen}
use Rattle.vs_parse_expressions.proofs.Exits.{fails_by}
use Rattle.vs_parse_expressions.specs.Lists.{comma_tail}
use Rattle.vs_parse_expressions.specs.Tasks.{dumped}
use Rattle.vs_parse_expressions.specs.Parts.{ReadsWithin, marked}
use Rattle.vs_parse_expressions.proofs.ListsLists.{grown_none}
use Rattle.vs_parse_expressions.proofs.Parts.{ended_as}
use Rattle.vs_parse_expressions.proofs.task.dump_list.Goals as goal

pub returns-in_err-first : goal.returns-in_err-first
returns-in_err-first c =
    let p = err_from_is_err_and c.from_residual.result c.from_residual.ensures.1 in
    rw (p.1, p.2) (fails_by (part a_dump_argument) dumped c.args.depth c.args.depth (seen c.args.tokens.now) (seen c.args.tokens.now)
    (λ deep at s. stuck_first s)
    c.in_err-first.field-0.0 c.in_err-first.ensures)

pub returns-in_err-all : goal.returns-in_err-all
returns-in_err-all c =
    let p = err_from_is_err_and c.from_residual-in_err-all.result c.from_residual-in_err-all.ensures.1 in
    rw (p.1, p.2) (fails_by (comma_tail (part a_dump_argument)) dumped c.args.depth c.args.depth (seen c.in_ok-first.first.rest.now) (seen c.args.tokens.now)
    (λ deep at s. stuck_second c.in_ok-first.ensures (stuck_first s))
    c.in_err-all.field-0.0 c.in_err-all.ensures)

pub returns : goal.returns
returns c =
    let all = grown_none (part a_dump_argument) c.args.depth dump_argument_tree _ _ _ _ c.in_ok-all.ensures c.new.ensures.items in
    ended_as (λ r. ReadsWithin dump_tree (marked m.Open) dumped c.args.depth c.args.tokens.now r) m.Close c.args.depth _ c.in_ok-all.all.rest.now _
    (λ y e p. rw e (record { inner = _; whole = refl; gets = gets_seq c.in_ok-first.ensures (gets_seq all p) }))
    (λ e p. fails_by (mark m.Close) dumped c.args.depth c.args.depth (seen c.in_ok-all.all.rest.now) (seen c.args.tokens.now)
    (λ deep at s. stuck_second c.in_ok-first.ensures (stuck_second all s)) e p)
    c.ended.ensures.tree (c.ended.ensures.mark c.args.depth)
