use Rattle.vs_syntax.specs.vs_lexer.specs.declared.token.Mark.TheVariants as m
use Rattle.vs_syntax.specs.Symbols.{a_finish}
use Rattle.vs_syntax.specs.Grammar.{mark}
use Rattle.vs_syntax.specs.Derivation.{both}
use Rattle.vs_syntax.specs.Views.{finish_tree, stmt_tree}
use Rattle.vs_parse_expressions.specs.Parts.{ReadsWithin, headed}
use Rattle.vs_parse_expressions.proofs.Parts.{ended_as}
use Rattle.vs_parse_expressions.proofs.ListsTrees.{tree_Finish}
use Rattle.vs_parse_expressions.proofs.task.finished.Goals as goal

pub returns : goal.returns
returns c = λ depth.
    ended_as (λ r. ReadsWithin stmt_tree (λ y. headed a_finish (both (finish_tree c.args.number) y)) (mark m.Semicolon) depth c.args.tokens.now r) m.Semicolon depth _ c.args.tokens.now _
    (λ y e p. rw e (record { inner = _; whole = tree_Finish _; gets = p }))
    (λ e p. p)
    c.ended.ensures.tree (c.ended.ensures.mark depth)
