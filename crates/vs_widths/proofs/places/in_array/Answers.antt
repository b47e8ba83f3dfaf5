use Rattle.std.proofs.Common.{sym, ◌∙◌, arith}
use Rattle.std.proofs.lemmas.Result.{err_from_is_err_and}
use Rattle.vs_widths.proofs.PlaceLemmas.{array_placed, no_word, words_refused, rest_refused, rest_flexible}
use Rattle.vs_widths.proofs.places.in_array.Goals as goal

pub returns : goal.returns
returns c =
    array_placed c.args.words c.args.meaning c.args.signal c.args.selects.items _ c.remove-index.result.0 c.remove-index.result.1 c.axis.result c.in_ok-extent.extent (λ h. absurd (omega (arith, c.len.ensures, c.if-len-eq0.false, h)))
    c.remove-index.ensures.value c.remove-index.ensures.by_index.2 (sym c.is_some.ensures ∙ c.if-is_some.false) c.requires.flexible c.axis.ensures.is c.axis.ensures.sign c.in_ok-extent.ensures

pub returns-then-len-eq0 : goal.returns-then-len-eq0
returns-then-len-eq0 c = no_word c.args.words c.args.meaning c.args.signal c.args.selects.items (omega (arith, c.len.ensures, c.if-len-eq0.true))

pub returns-then-is_some : goal.returns-then-is_some
returns-then-is_some c =
    words_refused c.args.words c.args.meaning c.args.signal c.args.selects.items c.remove-index.result.0 c.remove-index.result.1 c.remove-index.ensures.value (sym c.is_some.ensures ∙ c.if-is_some.true)

pub returns-in_err-extent : goal.returns-in_err-extent
returns-in_err-extent c =
    let p = err_from_is_err_and c.from_residual.result c.from_residual.ensures.1 in
    rw (p.1, p.2) (rest_refused c.args.words c.args.meaning c.args.signal c.args.selects.items _ c.remove-index.result.0 c.remove-index.result.1 _ (λ h. absurd (omega (arith, c.len.ensures, c.if-len-eq0.false, h)))
    c.remove-index.ensures.value c.remove-index.ensures.by_index.2 (sym c.is_some.ensures ∙ c.if-is_some.false) c.in_err-extent.ensures)

pub bits_of-requires : goal.bits_of-requires
bits_of-requires c = record { flexible = rest_flexible c.args.selects.items _ c.remove-index.ensures.by_index.2 c.requires.flexible }
