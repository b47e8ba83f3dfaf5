use Rattle.std.proofs.Common.{refl, sym, ◌∙◌}
use Rattle.vs_lexer.specs.Reading.{to_end, unclosed}
use Rattle.vs_lexer.proofs.TextEnds.{text_quote, text_line_end, text_bad_byte}
use Rattle.vs_lexer.proofs.texts.step_text.Goals as goal

pub returns-in_default : goal.returns-in_default
returns-in_default c = rw c.ends.ensures (unclosed _ (rw c.in_default.ensures refl) refl c.in_default.ensures)

pub returns-then-first-eq34 : goal.returns-then-first-eq34
returns-then-first-eq34 c = rw (c.ends-then-first-eq34.ensures, c.in-Some.ensures) (to_end _ (text_quote _ _ c.if-first-eq34.true))

pub returns-then-first-eq10 : goal.returns-then-first-eq10
returns-then-first-eq10 c = rw (c.ends-then-first-eq10.ensures, c.in-Some.ensures) (to_end _ (text_line_end _ c.if-first-eq34.false _ c.if-first-eq10.true))

pub returns-then-not-has : goal.returns-then-not-has
returns-then-not-has c = rw (c.ends-then-not-has.ensures, c.in-Some.ensures) (to_end _ (text_bad_byte _ c.if-first-eq34.false c.if-first-eq10.false c.if-first-eq92.false _ (sym c.has.ensures ∙ c.if-not-has.true)))
