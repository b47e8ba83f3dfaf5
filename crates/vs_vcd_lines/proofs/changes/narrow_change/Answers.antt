use Rattle.std.proofs.Common.{sym, ap, ◌∙◌, length}
use Rattle.std.proofs.lemmas.Option.{slice_get_within}
use Rattle.vs_vcd_lines.proofs.CodeLemmas.{rest_of}
use Rattle.vs_vcd_lines.proofs.ChangeLemmas.{narrow_digit, narrow_code, narrow_made, number_once, sized_is, sized_made}
use Rattle.vs_vcd_lines.proofs.changes.narrow_change.Goals as goal

pub returns-in_default-digit_of : goal.returns-in_default-digit_of
returns-in_default-digit_of c = λ x one sized is. narrow_digit c.args.line.now x one is c.in_default-digit_of.ensures

pub returns-in_default-number_of : goal.returns-in_default-number_of
returns-in_default-number_of c = λ x one sized is.
    c.in_default-number_of.ensures x.number (slice_get_within c.args.widths.now x.number (length x.value) sized)
    (narrow_code c.args.line.now x c.in-len1-up.len_at_least one is)

pub returns-then-width-ne1 : goal.returns-then-width-ne1
returns-then-width-ne1 c = λ x one sized is.
    let same = number_once (rest_of c.args.line.now) c.in-Some-number_of.number x.number c.in-Some-number_of.ensures.1
    (narrow_code c.args.line.now x c.in-len1-up.len_at_least one is) in
    c.if-width-ne1.true (sized_is c.args.widths.now c.in-Some-number_of.number x same sized ∙ one)

pub returns : goal.returns
returns c = (
  sized_made c.args.widths.now c.in-Some-number_of.number (length c.from_digit-value.result) c.in-Some-number_of.ensures.0
      (c.if-width-ne1.false ∙ sym (ap length c.from_digit-value.ensures)),
  narrow_made c.args.line.now c.in-Some.digit c.in-Some-number_of.number c.from_digit-value.result c.in-len1-up.len_at_least c.in-Some.ensures
      c.in-Some-number_of.ensures.1 c.from_digit-value.ensures,
)
