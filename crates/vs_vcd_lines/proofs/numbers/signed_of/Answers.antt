use Rattle.std.proofs.Common.{◌≡◌, sym, ap, ◌∙◌, subst, w64, FitsSigned, to_z, of_z}
use Rattle.std.specs.Fmt.{signed_decimal}
use Rattle.std.proofs.lemmas.Bool.{false≢true}
use Rattle.std.proofs.lemmas.Bool.Decides.{Decides-eqb}
use Rattle.std.proofs.lemmas.Slice.Eq.{slice_eq-Decides}
use Rattle.std.proofs.lemmas.Str.{IsUtf8-from_ascii}
use Rattle.std.proofs.lemmas.Fmt.{IsAscii-signed}
use Rattle.std.specs.Str.{IsAscii}
use Rattle.std.proofs.Math.Facts.{to_z-of_z}
use Rattle.vs_vcd_lines.proofs.NumberLemmas.{mag_short, fits_short, short_fits, signed_unread, signed_read}
use Rattle.vs_vcd_lines.specs.Names.{IsShort}
use Rattle.vs_vcd_lines.proofs.numbers.signed_of.Goals as goal

pub returns-in_default : goal.returns-in_default
returns-in_default c = λ n small e. c.in_default.ensures.cases.0 (IsUtf8-from_ascii _ (subst IsAscii (sym e) (IsAscii-signed n (mag_short n small))))

pub returns-in_default-parse : goal.returns-in_default-parse
returns-in_default-parse c = λ n small e. signed_unread c.in-Ok.text.now c.parse.result c.in_default-parse.field-0 n small (c.in-Ok.ensures.cases.0 ∙ e) c.parse.ensures.value.0 c.in_default-parse.is

pub returns-else-written : goal.returns-else-written
returns-else-written c = λ n small e.
    let same = signed_read c.in-Ok.text.now c.parse.result c.in-Ok-parse.number n small (c.in-Ok.ensures.cases.0 ∙ e) c.parse.ensures.value.0 c.in-Ok-parse.is in
    let written : c.as_bytes.result.now ≡ c.args.word.now = c.as_bytes.ensures.value ∙ c.format.ensures.text ∙ ap (λ z. signed_decimal (to_z w64 (of_z w64 z))) same ∙ ap signed_decimal (to_z-of_z {w = w64} {z = n} (fits_short n small)) ∙ sym e in
    false≢true (sym c.if-written.false ∙ (slice_eq-Decides Decides-eqb _ _ _ c.eq-written.ensures).1 written)

pub returns-then-written : goal.returns-then-written
returns-then-written c =
    let parsed = c.in-Ok-parse.ensures.value.0 in
    let fits : FitsSigned w64 c.in-Ok-parse.number = subst (FitsSigned w64) (sym parsed.1) parsed.0.1 in
    let back : to_z w64 (of_z w64 c.in-Ok-parse.number) ≡ c.in-Ok-parse.number = to_z-of_z {w = w64} {z = c.in-Ok-parse.number} fits in
    let written = (slice_eq-Decides Decides-eqb _ _ _ c.eq-written.ensures).0 c.if-written.true in
    (subst IsShort (sym back) (short_fits c.in-Ok-parse.number fits), sym written ∙ c.as_bytes.ensures.value ∙ c.format.ensures.text)
