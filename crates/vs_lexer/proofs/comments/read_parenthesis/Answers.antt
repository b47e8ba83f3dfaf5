use Rattle.std.proofs.Common.{◌≡◌, false, refl, sym, ap, ◌∙◌}
use Rattle.std.proofs.Math.Bool.{and-false}
use Rattle.vs_lexer.specs.Pieces.{opens_attribute}
use Rattle.vs_lexer.proofs.Openings.{heads_differ, rests_same, parenthesis_alone, attribute_reads}
use Rattle.vs_lexer.proofs.comments.read_parenthesis.Goals as goal

pub returns-in_default : goal.returns-in_default
returns-in_default c = parenthesis_alone _ _ _ refl refl (λ b more e. cc c.in_default.ensures)

pub returns-then-second-ne42 : goal.returns-then-second-ne42
returns-then-second-ne42 c = parenthesis_alone _ _ _ refl refl (λ b more e. rw (heads_differ _ _ more _ b 42 c.in-Some.ensures e c.if-second-ne42.true) refl)

pub returns-then-not-opens_attribute : goal.returns-then-not-opens_attribute
returns-then-not-opens_attribute c =
    parenthesis_alone _ _ _ refl refl (λ b more e.
    let closes : opens_attribute more ≡ false = ap opens_attribute (rests_same _ _ more _ b c.in-Some.ensures e) ∙ sym c.opens_attribute.ensures ∙ c.if-not-opens_attribute.true in
    rw (closes, and-false) refl)

pub returns : goal.returns
returns c = rw c.in-Some.ensures (attribute_reads _ _ _ _ c.if-second-ne42.false (sym c.opens_attribute.ensures ∙ c.if-not-opens_attribute.false) c.read_closed.ensures)
