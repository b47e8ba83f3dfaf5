use Rattle.std.proofs.Common.{List, ℕ, length, true, sym, ap, ◌∙◌}
use Rattle.std.specs.Prelude.{◌==◌}
use Rattle.std.proofs.lemmas.Bool.{false≢true}
use Rattle.vs_vcd_lines.proofs.CutLemmas.{eqb_gives}
use Rattle.vs_vcd_lines.specs.Names.{IsNumber}
use Rattle.vs_vcd_lines.specs.BeginningsParts.{BeginsSome}
use Rattle.vs_vcd_lines.proofs.SignedLemmas.{number_empty, number_sign, number_told}
use Rattle.vs_vcd_lines.proofs.TextLemmas.{as_tells, nil_of}
use Rattle.vs_vcd_lines.proofs.beginnings_numbers.begins_number.Goals as goal

pub returns-then-is_empty : goal.returns-then-is_empty
returns-then-is_empty c = number_empty c.args.text.now (nil_of c.args.text.now (eqb_gives (length c.args.text.now) 0 (sym c.is_empty.ensures ∙ c.if-is_empty.true)))

pub returns-then-sign : goal.returns-then-sign
returns-then-sign c =
    as_tells (BeginsSome IsNumber c.args.text.now) c.is_same-sign.result true c.if-sign.true
    (number_sign c.args.text.now (c.is_same-sign.ensures.0 c.if-sign.true))

pub returns-else-sign : goal.returns-else-sign
returns-else-sign c =
    number_told c.args.text.now c.is_number.result
    (λ none. false≢true (sym c.if-is_empty.false ∙ c.is_empty.ensures ∙ ap (λ (l : List ℕ). length l == 0) none))
    (λ e. false≢true (sym c.if-sign.false ∙ c.is_same-sign.ensures.1 e)) c.is_number.ensures
