use Rattle.std.proofs.Common.{◌∙◌, ap₂, bit_or}
use Rattle.std.specs.Int.Bits.{bit_xor}
use Rattle.vs_eval.proofs.DifferencesLemmas.{difference_of_planes}
use Rattle.vs_eval.proofs.masks.WordChange.differing.Goals as goal

pub returns : goal.returns
returns c = λ before after change.
    ap₂ bit_or (ap₂ bit_xor change.value change.new_value) (ap₂ bit_xor change.unknown change.new_unknown) ∙ difference_of_planes before after change.size
