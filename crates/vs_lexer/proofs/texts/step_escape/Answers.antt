use Rattle.std.proofs.Common.{◌∷◌, refl, sym, ◌∙◌}
use Rattle.vs_lexer.specs.Reading.{to_end, unclosed}
use Rattle.vs_lexer.proofs.TextEnds.{text_bad_escape, text_above}
use Rattle.vs_lexer.proofs.texts.step_escape.Goals as goal

pub returns-in_default : goal.returns-in_default
returns-in_default c = rw c.ends.ensures (unclosed _ (rw c.in_default.ensures refl) refl c.in_default.ensures)

pub returns-then-not-is_octal : goal.returns-then-not-is_octal
returns-then-not-is_octal c = rw (c.ends-then-not-is_octal.ensures, c.in-Some.ensures) (to_end _ (text_bad_escape c.in-Some.escaped c.in-Some.behind.now (sym c.is_escape.ensures ∙ c.if-is_escape.false) (sym c.is_octal.ensures ∙ c.if-not-is_octal.true)))

pub returns-then-is_above_377 : goal.returns-then-is_above_377
returns-then-is_above_377 c =
    rw (c.ends-then-is_above_377.ensures, c.in-Some.ensures, c.in-Some-first_two_and_rest.ensures) (to_end _ (text_above c.in-Some.escaped (c.in-Some-first_two_and_rest.second ∷ c.in-Some-first_two_and_rest.third ∷ c.in-Some-first_two_and_rest.rest.now) (sym c.is_escape.ensures ∙ c.if-is_escape.false) (sym c.is_octal.ensures ∙ c.if-not-is_octal.false) (sym c.is_above_377.ensures ∙ c.if-is_above_377.true)))
