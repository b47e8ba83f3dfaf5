use Rattle.std.proofs.Common.{refl, arith, false}
use Rattle.std.proofs.lemmas.Result.{err_from_is_err_and}
use Rattle.vs_syntax.specs.vs_lexer.specs.declared.token.Mark.TheVariants as m
use Rattle.vs_syntax.specs.Grammar.{◌·◌, mark, print_arguments}
use Rattle.vs_syntax.specs.Reading.{stuck_first, stuck_second}
use Rattle.vs_syntax.proofs.Gets.{gets_seq}
use Rattle.vs_parse_expressions.specs.Answers.{seen}
use Rattle.vs_parse_expressions.proofs.Exits.{fails_by}
use Rattle.vs_syntax.specs.Symbols.{a_print}
use Rattle.vs_syntax.specs.Views.{stmt_tree}
use Rattle.vs_parse_expressions.specs.Parts.{ReadsWithin, headed}
use Rattle.vs_parse_expressions.proofs.Parts.{ended_as}
use Rattle.vs_parse_expressions.proofs.ListsTrees.{tree_Print}
use Rattle.vs_parse_expressions.proofs.task.print_stmt.Goals as goal

pub returns-in_err-arguments : goal.returns-in_err-arguments
returns-in_err-arguments c =
    let p = err_from_is_err_and c.from_residual.result c.from_residual.ensures.1 in
    rw (p.1, p.2) (fails_by print_arguments (print_arguments · mark m.Semicolon) c.args.depth c.args.depth (seen c.args.tokens.now) (seen c.args.tokens.now)
    (λ deep at s. stuck_first s)
    c.in_err-arguments.field-0.0 c.in_err-arguments.ensures)

pub returns : goal.returns
returns c =
    ended_as (λ r. ReadsWithin stmt_tree (headed (a_print c.args.task)) (print_arguments · mark m.Semicolon) c.args.depth c.args.tokens.now r) m.Semicolon c.args.depth _ c.in_ok-arguments.arguments.rest.now _
    (λ y e p. rw e (record { inner = _; whole = tree_Print _ _; gets = gets_seq c.in_ok-arguments.ensures p }))
    (λ e p. fails_by (mark m.Semicolon) (print_arguments · mark m.Semicolon) c.args.depth c.args.depth (seen c.in_ok-arguments.arguments.rest.now) (seen c.args.tokens.now)
    (λ deep at s. stuck_second c.in_ok-arguments.ensures s) e p)
    c.ended.ensures.tree (c.ended.ensures.mark c.args.depth)
