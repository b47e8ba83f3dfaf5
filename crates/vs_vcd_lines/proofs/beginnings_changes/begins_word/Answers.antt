use Rattle.std.proofs.Common.{◌∷◌, false, refl, sym, ◌∙◌, arith}
use Rattle.std.proofs.lemmas.Bool.{false≢true}
use Rattle.vs_vcd_lines.specs.Beginnings.{BeginsChange}
use Rattle.vs_vcd_lines.proofs.TextLemmas.{as_tells}
use Rattle.vs_vcd_lines.proofs.BeginningsWordLemmas.{no_word, word_cut, word_long, word_old, word_uncut}
use Rattle.vs_vcd_lines.proofs.beginnings_changes.begins_word.Goals as goal

pub returns-then-text-gt75 : goal.returns-then-text-gt75
returns-then-text-gt75 c =
    word_long c.args.number c.args.width c.args.old (98 ∷ c.args.text.now) c.args.text.now 98 c.requires.some c.requires.most (omega arith) refl
    (omega (arith, c.if-text-gt75.true))

pub begins_digits-requires-clause-some : goal.begins_digits-requires-clause-some
begins_digits-requires-clause-some c = omega (arith, c.requires.some)

pub returns-in_default : goal.returns-in_default
returns-in_default c =
    word_uncut c.args.number c.args.width c.args.old (98 ∷ c.args.text.now) c.args.text.now 98 c.begins_digits.result c.requires.some refl refl
    c.in_default.ensures c.begins_digits.ensures

pub value_of-requires-clause-some : goal.value_of-requires-clause-some
value_of-requires-clause-some c = omega (arith, c.requires.some)

pub returns-then-is_other : goal.returns-then-is_other
returns-then-is_other c =
    word_cut c.args.number c.args.width c.args.old (98 ∷ c.args.text.now) c.args.text.now c.in-Some.digits.now c.in-Some.code.now 98 c.in-Some-value_of.value
    c.begins_code.result c.requires.some refl refl c.in-Some.ensures c.in-Some-value_of.ensures (c.is_other.ensures.0 c.if-is_other.true) c.begins_code.ensures

pub returns-else-is_other : goal.returns-else-is_other
returns-else-is_other c =
    as_tells (BeginsChange c.args.number c.args.width c.args.old (98 ∷ c.args.text.now)) c.is_other.result false c.if-is_other.false
    (word_old c.args.number c.args.width c.args.old (98 ∷ c.args.text.now) c.args.text.now c.in-Some.digits.now c.in-Some.code.now 98 c.in-Some-value_of.value
    c.requires.some refl c.in-Some.ensures c.in-Some-value_of.ensures (λ same. false≢true (sym c.if-is_other.false ∙ c.is_other.ensures.1 same)))

pub returns-in-None : goal.returns-in-None
returns-in-None c =
    no_word c.args.number c.args.width c.args.old (98 ∷ c.args.text.now) c.args.text.now c.in-Some.digits.now c.in-Some.code.now 98 c.requires.some refl
    c.in-Some.ensures c.in-None.ensures
