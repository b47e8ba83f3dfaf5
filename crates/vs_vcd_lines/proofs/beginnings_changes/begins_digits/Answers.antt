use Rattle.std.proofs.Common.{List, ℕ, length, true, sym, ap, ◌∙◌}
use Rattle.std.specs.Prelude.{◌==◌}
use Rattle.std.proofs.lemmas.Bool.{false≢true}
use Rattle.vs_vcd_lines.proofs.CutLemmas.{eqb_gives}
use Rattle.std.proofs.lemmas.Bool.Decides.{Decides-ltb}
use Rattle.vs_vcd_lines.specs.Beginnings.{BeginsDigits}
use Rattle.vs_vcd_lines.proofs.DigitLemmas.{no_digits, old_digits, other_digits}
use Rattle.vs_vcd_lines.proofs.TextLemmas.{as_tells, nil_of}
use Rattle.vs_vcd_lines.proofs.BeginningsWordLemmas.{empty_digits}
use Rattle.vs_vcd_lines.proofs.beginnings_changes.begins_digits.Goals as goal

pub returns-then-is_empty : goal.returns-then-is_empty
returns-then-is_empty c = empty_digits c.args.text.now c.args.width c.args.old c.requires.some (nil_of c.args.text.now (eqb_gives (length c.args.text.now) 0 (sym c.is_empty.ensures ∙ c.if-is_empty.true)))

pub returns-then-is_other : goal.returns-then-is_other
returns-then-is_other c =
    as_tells (BeginsDigits c.args.width c.args.old c.args.text.now) c.is_other.result true c.if-is_other.true
    (other_digits c.args.text.now c.args.width c.args.old c.in-Some.value c.in-Some.ensures (c.is_other.ensures.0 c.if-is_other.true))

pub returns-else-is_other : goal.returns-else-is_other
returns-else-is_other c =
    old_digits c.args.text.now c.args.width c.args.old c.in-Some.value _ c.requires.some
    (λ none. false≢true (sym c.if-is_empty.false ∙ c.is_empty.ensures ∙ ap (λ (l : List ℕ). length l == 0) none))
    c.in-Some.ensures (λ same. false≢true (sym c.if-is_other.false ∙ c.is_other.ensures.1 same)) (Decides-ltb (length c.args.text.now) c.args.width)

pub returns-in-None : goal.returns-in-None
returns-in-None c =
    no_digits c.args.text.now c.args.width c.args.old c.requires.some
    (λ none. false≢true (sym c.if-is_empty.false ∙ c.is_empty.ensures ∙ ap (λ (l : List ℕ). length l == 0) none))
    c.in-None.ensures
