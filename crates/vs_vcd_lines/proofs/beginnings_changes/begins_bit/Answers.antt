use Rattle.std.proofs.Common.{◌∷◌, false, refl, sym, subst, ◌∙◌}
use Rattle.std.proofs.lemmas.Bool.{false≢true}
use Rattle.vs_vcd_lines.specs.Beginnings.{BeginsChange, IsOther}
use Rattle.vs_vcd_lines.proofs.TextLemmas.{as_tells}
use Rattle.vs_vcd_lines.proofs.BeginningsWordLemmas.{bit_old, bit_tells, no_bit}
use Rattle.vs_vcd_lines.proofs.beginnings_changes.begins_bit.Goals as goal

pub returns-then-is_other : goal.returns-then-is_other
returns-then-is_other c =
    bit_tells c.args.number c.args.old (c.args.first ∷ c.args.rest.now) c.args.rest.now c.args.first c.in-Some.digit c.begins_code.result refl c.in-Some.ensures
    (subst (IsOther c.args.old) c.from_digit.ensures (c.is_other.ensures.0 c.if-is_other.true)) c.begins_code.ensures

pub returns-else-is_other : goal.returns-else-is_other
returns-else-is_other c =
    as_tells (BeginsChange c.args.number 1 c.args.old (c.args.first ∷ c.args.rest.now)) c.is_other.result false c.if-is_other.false
    (bit_old c.args.number c.args.old (c.args.first ∷ c.args.rest.now) c.args.rest.now c.args.first c.in-Some.digit refl c.in-Some.ensures
    (λ same. false≢true (sym c.if-is_other.false ∙ c.is_other.ensures.1 (subst (IsOther c.args.old) (sym c.from_digit.ensures) same))))

pub returns-in-None : goal.returns-in-None
returns-in-None c = no_bit c.args.number c.args.old (c.args.first ∷ c.args.rest.now) c.args.rest.now c.args.first refl c.in-None.ensures
