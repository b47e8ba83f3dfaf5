use Rattle.std.proofs.Common.{◌∷◌, ◌++◌, map, reverse, sym, ◌∙◌, length, arith}
use Rattle.std.proofs.lemmas.Option.{slice_get_within}
use Rattle.vs_vcd_writing.specs.Codes.{code}
use Rattle.vs_vcd_writing.specs.Values.{digit_character, shortened}
use Rattle.vs_vcd_lines.proofs.CutLemmas.{lacks_cut}
use Rattle.vs_vcd_lines.proofs.ChangeLemmas.{wide_text, wide_rest, wide_parts, wide_made, number_once, sized_is, sized_made, sizes_at}
use Rattle.vs_vcd_lines.proofs.changes.wide_change.Goals as goal

pub returns-in_default : goal.returns-in_default
returns-in_default c = λ x wide sized is.
    c.in_default.ensures (map digit_character (shortened (reverse x.value)) ++ (32 ∷ code x.number)) (is ∙ wide_text x.value (code x.number) wide)

pub returns-in_default-cut : goal.returns-in_default-cut
returns-in_default-cut c = λ x wide sized is.
    lacks_cut 32 c.in-Some.rest.now (map digit_character (shortened (reverse x.value))) (code x.number) c.in_default-cut.ensures
    (wide_rest c.args.line.now c.in-Some.rest.now x c.in-Some.ensures wide is)

pub returns-in_default-number_of : goal.returns-in_default-number_of
returns-in_default-number_of c = λ x wide sized is.
    c.in_default-number_of.ensures x.number (slice_get_within c.args.widths.now x.number (length x.value) sized)
    (wide_parts c.args.line.now c.in-Some.rest.now c.in-Some-cut.digits.now c.in-Some-cut.code.now x c.in-Some.ensures c.in-Some-cut.ensures wide is).1

pub returns-then-width-lt2 : goal.returns-then-width-lt2
returns-then-width-lt2 c = λ x wide sized is.
    let parts = wide_parts c.args.line.now c.in-Some.rest.now c.in-Some-cut.digits.now c.in-Some-cut.code.now x c.in-Some.ensures c.in-Some-cut.ensures wide is in
    let same = number_once c.in-Some-cut.code.now c.in-Some-number_of.number x.number c.in-Some-number_of.ensures.1 parts.1 in
    let size = sized_is c.args.widths.now c.in-Some-number_of.number x same sized in
    absurd (omega (arith, size, wide, c.if-width-lt2.true))

pub value_of-requires-clause-most : goal.value_of-requires-clause-most
value_of-requires-clause-most c = (sizes_at c.args.widths.now c.in-Some-number_of.number c.requires c.in-Some-number_of.ensures.0).1

pub returns-in-None : goal.returns-in-None
returns-in-None c = λ x wide sized is.
    let parts = wide_parts c.args.line.now c.in-Some.rest.now c.in-Some-cut.digits.now c.in-Some-cut.code.now x c.in-Some.ensures c.in-Some-cut.ensures wide is in
    let same = number_once c.in-Some-cut.code.now c.in-Some-number_of.number x.number c.in-Some-number_of.ensures.1 parts.1 in
    let size = sized_is c.args.widths.now c.in-Some-number_of.number x same sized in
    c.in-None.ensures x.value (record { wide = sym size; is = parts.0 })

pub returns-in-Some-value_of : goal.returns-in-Some-value_of
returns-in-Some-value_of c = (
  sized_made c.args.widths.now c.in-Some-number_of.number (length c.in-Some-value_of.value) c.in-Some-number_of.ensures.0 (sym c.in-Some-value_of.ensures.wide),
  wide_made c.args.line.now c.in-Some.rest.now c.in-Some-cut.digits.now c.in-Some-cut.code.now c.in-Some-number_of.number _ c.in-Some-value_of.value
      c.in-Some.ensures c.in-Some-cut.ensures c.in-Some-number_of.ensures.1 c.if-width-lt2.false c.in-Some-value_of.ensures,
)
