-- A vector that is taken whole.
use Rattle.std.proofs.Common.{◌≡◌, ℕ, ◌<◌, pos, ◌+ℤ◌, List, length, sym, ap, ◌∙◌, arith}
use Rattle.std.proofs.lemmas.Int.{ints}
use Rattle.std.proofs.lemmas.List.{ext_get_or}
use Rattle.vs_design.specs.vs_logic4.specs.declared.digit.Digit.{Digit}
use Rattle.vs_design.specs.vs_logic4.specs.declared.digit.Digit.TheVariants.{X}
use Rattle.vs_design.specs.vs_logic4.specs.Lengths.{length-selected}
use Rattle.vs_design.specs.vs_logic4.specs.Parts.{digit_at, selected}
use Rattle.vs_design.specs.vs_logic4.proofs.Parts.{get_or-selected}

-- all digits of a vector, from the lowest one on
pub selected_whole : (width : ℕ) (ds : List Digit) → length ds ≡ width → ds ≡ selected (pos 0) width ds
selected_whole width ds e =
    sym (ext_get_or X (selected (pos 0) width ds) ds (length-selected (pos 0) width ds ∙ sym e)
    (λ i k.
    let within : i < width = rw length-selected at k in
    let place : pos 0 +ℤ pos i ≡ pos i = omega (arith, ints) in
    get_or-selected (pos 0) width ds i within ∙ ap (λ z. digit_at z ds X) place))
