use Rattle.vs_vcd_lines.proofs.ValueLemmas.{spelled_first, spelled_rest, spelled_one, spelled_more}
use Rattle.std.proofs.Common.{ap, ◌++◌, ◌∙◌}
use Rattle.vs_vcd_lines.proofs.values.+digits_of.Goals as goal

pub returns-then-text-eq1 : goal.returns-then-text-eq1
returns-then-text-eq1 t c =
    spelled_one c.args.text.now c.in-Some.digit c.from_digit-high.result c.in-len1-up.len_at_least c.if-text-eq1.true c.in-Some.ensures c.from_digit-high.ensures

pub returns-in-None : goal.returns-in-None
returns-in-None t c = spelled_rest c.args.text.now c.in-len1-up.len_at_least c.if-text-eq1.false c.in-None.ensures

pub returns-in-Some-digits_of : goal.returns-in-Some-digits_of
returns-in-Some-digits_of t c =
    spelled_more c.args.text.now c.in-Some.digit c.in-Some-digits_of.low c.concat.result c.in-len1-up.len_at_least c.in-Some.ensures
    c.in-Some-digits_of.ensures (c.concat.ensures ∙ ap (λ h. c.in-Some-digits_of.low ++ h) c.from_digit-high.ensures)

pub returns-in_default-digit_of : goal.returns-in_default-digit_of
returns-in_default-digit_of t c = spelled_first c.args.text.now c.in_default-digit_of.ensures
