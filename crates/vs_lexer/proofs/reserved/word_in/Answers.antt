use Rattle.std.proofs.Common.{sym, ◌∙◌}
use Rattle.vs_lexer.specs.declared.token.Kind.TheVariants as k
use Rattle.vs_lexer.proofs.Tables.{entry_passed, entry_found}
use Rattle.vs_lexer.proofs.reserved.word_in.Goals as goal

pub loop-spelling-preserved : goal.loop-spelling-preserved
loop-spelling-preserved c = entry_passed (λ entry. (entry.0.now, k.Word entry.1)) c.args.table.now c.loop-spelling.spelling-index _ c.args.text.now c.loop-spelling-test.true (sym c.eq.ensures ∙ c.if-eq.false) ∙ c.loop-spelling.invariant

pub returns-then-eq : goal.returns-then-eq
returns-then-eq c = sym (entry_found (λ entry. (entry.0.now, k.Word entry.1)) c.args.table.now c.loop-spelling.spelling-index _ c.args.text.now c.loop-spelling-test.true (sym c.eq.ensures ∙ c.if-eq.true)) ∙ c.loop-spelling.invariant
