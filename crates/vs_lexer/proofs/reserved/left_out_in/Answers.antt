use Rattle.std.proofs.Common.{sym, ◌∙◌}
use Rattle.vs_lexer.specs.declared.token.Kind.TheVariants as k
use Rattle.vs_lexer.proofs.Tables.{entry_passed, entry_found}
use Rattle.vs_lexer.proofs.reserved.left_out_in.Goals as goal

pub loop-word-preserved : goal.loop-word-preserved
loop-word-preserved c = entry_passed (λ word. (word.now, k.LeftOut)) c.args.words.now c.loop-word.word-index _ c.args.text.now c.loop-word-test.true (sym c.eq.ensures ∙ c.if-eq.false) ∙ c.loop-word.invariant

pub returns-then-eq : goal.returns-then-eq
returns-then-eq c = sym (entry_found (λ word. (word.now, k.LeftOut)) c.args.words.now c.loop-word.word-index _ c.args.text.now c.loop-word-test.true (sym c.eq.ensures ∙ c.if-eq.true)) ∙ c.loop-word.invariant
