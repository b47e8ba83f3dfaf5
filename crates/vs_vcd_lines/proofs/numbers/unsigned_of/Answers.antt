use Rattle.std.proofs.Common.{◌<◌, ◌^◌, ◌≡◌, decimal, sym, ap, ◌∙◌, subst}
use Rattle.std.proofs.lemmas.Bool.{false≢true}
use Rattle.std.proofs.lemmas.Bool.Decides.{Decides-eqb}
use Rattle.std.proofs.lemmas.Slice.Eq.{slice_eq-Decides}
use Rattle.std.proofs.lemmas.Str.{IsUtf8-from_ascii}
use Rattle.std.proofs.lemmas.Fmt.{IsAscii-decimal}
use Rattle.std.specs.Str.{IsAscii}
use Rattle.vs_vcd_lines.proofs.NumberLemmas.{unsigned_unread, unsigned_read}
use Rattle.vs_vcd_lines.proofs.numbers.unsigned_of.Goals as goal

pub returns-in_default : goal.returns-in_default
returns-in_default c = λ n small e. c.in_default.ensures.cases.0 (IsUtf8-from_ascii _ (subst IsAscii (sym e) (IsAscii-decimal n small)))

pub returns-in_default-parse : goal.returns-in_default-parse
returns-in_default-parse c = λ n small e. unsigned_unread c.in-Ok.text.now c.parse.result c.in_default-parse.field-0 n small (c.in-Ok.ensures.cases.0 ∙ e) c.parse.ensures.value.0 c.in_default-parse.is

pub returns-else-written : goal.returns-else-written
returns-else-written c = λ n small e.
    let same = unsigned_read c.in-Ok.text.now c.parse.result c.in-Ok-parse.number n small (c.in-Ok.ensures.cases.0 ∙ e) c.parse.ensures.value.0 c.in-Ok-parse.is in
    let written : c.as_bytes.result.now ≡ c.args.word.now = c.as_bytes.ensures.value ∙ c.format.ensures.text ∙ ap decimal same ∙ sym e in
    false≢true (sym c.if-written.false ∙ (slice_eq-Decides Decides-eqb _ _ _ c.eq-written.ensures).1 written)

pub returns-then-written : goal.returns-then-written
returns-then-written c =
    let parsed = c.in-Ok-parse.ensures.value.0 in
    let written = (slice_eq-Decides Decides-eqb _ _ _ c.eq-written.ensures).0 c.if-written.true in
    (subst (λ n. n < 2 ^ 64) (sym parsed.1) parsed.0.1, sym written ∙ c.as_bytes.ensures.value ∙ c.format.ensures.text)
