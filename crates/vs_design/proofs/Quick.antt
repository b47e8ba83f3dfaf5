-- A vector that is written whole.
use Rattle.std.proofs.Common.{◌≡◌, ◌<◌, pos, ◌-ℤ◌, List, length, get_or, sym, ap, ◌∙◌, arith}
use Rattle.std.proofs.lemmas.Int.{ints}
use Rattle.std.proofs.lemmas.List.{ext_get_or, get_or_default}
use Rattle.vs_logic4.specs.declared.digit.Digit.{Digit}
use Rattle.vs_logic4.specs.declared.digit.Digit.TheVariants.{X}
use Rattle.vs_logic4.specs.Lengths.{length-with_part}
use Rattle.vs_logic4.specs.Parts.{digit_at, with_part}
use Rattle.vs_logic4.proofs.Properties.{get_or-with_part}

-- a part as long as the vector, put in at the lowest digit
pub put_whole : (part ds : List Digit) → length part ≡ length ds → part ≡ with_part (pos 0) part ds
put_whole part ds e =
    sym (ext_get_or X (with_part (pos 0) part ds) part (length-with_part (pos 0) part ds ∙ sym e)
    (λ i k.
    let within : i < length ds = rw length-with_part at k in
    let place : pos i -ℤ pos 0 ≡ pos i = omega (arith, ints) in
    get_or-with_part (pos 0) part ds i within ∙ ap (λ z. digit_at z part (get_or ds i X)) place
    ∙ get_or_default part i (get_or ds i X) X (omega (arith, within, e))))
